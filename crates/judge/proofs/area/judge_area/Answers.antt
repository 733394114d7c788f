-- An area that does not start with zero is not all zero, and `judge_journal` decides it; one that does has no head.
use mathlib.Core.Path.{◌≡◌, refl}
use mathlib.Core.Bool.{false}
use mathlib.Core.List.{List, [], ◌∷◌}
use Prim.Native.Nat.{ℕ}
use borrow.Author.Tests.{ne_eqb}
use lib.ListN.{get_or}
use Rattle.register.specs.Area.{all_zero}
use Rattle.terms.proofs.Profiles.{some_kind}
use Rattle.register.specs.Head.{head_of}
use Rattle.journal.specs.Sound.{is_head, is_sound}
use Rattle.judge.specs.Inner.Judged.{judged}
use Rattle.judge.proofs.Numbers.{refused}
use Rattle.judge.proofs.area.judge_area.Goals as goal

first_not_zero : (area : List ℕ) → (get_or area 0 0 ≡ 0 → ⊥) → all_zero area ≡ false
unfolding all_zero
first_not_zero [] h = absurd (h refl)
first_not_zero (b ∷ bs) h = rw (ne_eqb b 0 h)

first_zero : (area : List ℕ) → get_or area 0 0 ≡ 0 → is_sound area ≡ false
unfolding is_sound is_head
first_zero area h = rw (h, some_kind (head_of area).profile)

pub returns-then-area-ne-AREA_BYTES : goal.returns-then-area-ne-AREA_BYTES
unfolding judged
returns-then-area-ne-AREA_BYTES c = refused _ (rw (ne_eqb _ _ c.if-area-ne-AREA_BYTES.true))

pub judge_journal-requires : goal.judge_journal-requires
judge_journal-requires c = (c.if-area-ne-AREA_BYTES.false, first_not_zero _ c.if-area-ne0.true)

pub returns-then-is_zero_from : goal.returns-then-is_zero_from
unfolding judged
returns-then-is_zero_from c = refused _ (rw (c.if-area-ne-AREA_BYTES.false, ← c.is_zero_from.ensures, c.if-is_zero_from.true))

pub returns : goal.returns
unfolding judged
returns c =
    refused _ (rw (c.if-area-ne-AREA_BYTES.false, ← c.is_zero_from.ensures, c.if-is_zero_from.false, first_zero _ c.if-area-ne0.false))
