-- Where a last value moves to, for the code: a value that the dials show, or none where it is out of their range. And what is made of a next
-- tally, where there is one.
use Rattle.std.specs.Prelude.{cond, ℕ, ltb, ℤ, pos, negsuc, Option, Some, None, eqb}
use Rattle.terms.specs.Number.{accepted}
use Rattle.tally.specs.declared.tally.Tally.{Tally}
use Rattle.tally.specs.Tally.{tally_number}

unfoldable pub shown_by : ℕ → ℕ → Option ℕ
shown_by limit value = cond (ltb value limit) (Some value) None

unfoldable pub moved_to : ℕ → ℤ → Option ℕ
moved_to limit (pos value) = shown_by limit value
moved_to limit (negsuc below) = None

abbrev pub made_of : Option Tally → Tally → Tally
made_of (Some next) t = cond (eqb (tally_number next) accepted) next t
made_of None t = t
