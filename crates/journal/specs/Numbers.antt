-- 01, Calls: the numbers of the table that an area alone decides.
use Rattle.std.specs.Prelude.{not, List, [], ◌∷◌, ℕ}
use Rattle.terms.specs.Number.{no_meter, damaged}
use Rattle.terms.specs.Rule.{Rule, rule}
use Rattle.register.specs.Area.{all_zero}
use Rattle.journal.specs.Sound.{is_sound}

-- 3: "area all zero"; 4: "area neither zero nor sound"
unfoldable pub area_rules : List ℕ → List Rule
area_rules area = rule no_meter (all_zero area) ∷ rule damaged (not (is_sound area)) ∷ []
