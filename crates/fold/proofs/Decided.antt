-- The number of the fold's checks: the area's, and after it 27.
use Rattle.std.specs.Prelude.{Ok, Err}
use mathlib.Core.Path.{◌≡◌, refl}
use mathlib.Core.Bool.{Bool, true, false, not, cond}
use mathlib.Core.List.{List}
use Prim.Native.Nat.{ℕ}
use lib.Dec.{eqb}
use lib.ListN.{length}
use Rattle.terms.specs.declared.refusal.Refusal.{Refusal}
use Rattle.terms.specs.Number.{accepted, no_meter, damaged, no_fold}
use Rattle.terms.specs.Refusal.{number_of}
use Rattle.terms.specs.Rule.{first_broken}
use Rattle.terms.proofs.Refusals.{refuses}
use Rattle.register.specs.Area.{area_bytes, all_zero}
use Rattle.journal.specs.Journal.{journal_of, standing}
use Rattle.journal.specs.Numbers.{area_rules}
use Rattle.journal.specs.Sound.{is_sound}
use Rattle.judge.specs.declared.sound.Judged.{Judged}
use Rattle.judge.specs.Inner.Answered.{Judges}
use Rattle.calls.specs.Checks.{is_no_fold, fold_rules, fold_checks}

-- the number of the area's rules, if there is one, comes before that of the others
then_others : (zero wrong : Bool) (others : ℕ) → cond zero no_meter (cond wrong damaged others) ≡ cond (eqb (cond zero no_meter (cond wrong damaged accepted)) accepted) others (cond zero no_meter (cond wrong damaged accepted))
then_others true wrong others = refl
then_others false true others = refl
then_others false false others = refl

module _ (area : List ℕ) (size : length area ≡ area_bytes) where
  -- 3 and 4
  pub area_refused : {refusal : Refusal} → Judges area 0 0 (Err refusal) → number_of refusal ≡ first_broken (fold_checks area)
  unfolding fold_checks area_rules
  area_refused {refusal} judges =
      rw (then_others (all_zero area) (not (is_sound area)) (first_broken (fold_rules (journal_of area))), ← judges.number_is size, refuses refusal)

  -- 27, and none
  pub by_journal : {j : Judged} → Judges area 0 0 (Ok j) → cond (is_no_fold (standing (journal_of area).entries)) no_fold accepted ≡ first_broken (fold_checks area)
  unfolding fold_checks area_rules fold_rules
  by_journal judges =
      rw (then_others (all_zero area) (not (is_sound area)) (first_broken (fold_rules (journal_of area))), ← judges.number_is size)
