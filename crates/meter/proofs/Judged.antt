-- What the judgement of an area of 512 bytes says of the first checks of a call.
use Rattle.std.specs.Prelude.{Ok, Err}
use mathlib.Core.Path.{◌≡◌, refl, sym, ◌∙◌}
use mathlib.Core.Bool.{Bool, true, false, not, cond}
use mathlib.Core.List.{List}
use Prim.Native.Nat.{ℕ}
use lib.Dec.{eqb}
use lib.ListN.{length}
use Rattle.terms.specs.declared.refusal.Refusal.{Refusal}
use Rattle.terms.specs.Number.{accepted, no_meter, damaged}
use Rattle.terms.specs.Refusal.{number_of}
use Rattle.terms.specs.Rule.{Rule, first_broken}
use Rattle.terms.proofs.Refusals.{refuses}
use Rattle.register.specs.Area.{area_bytes, all_zero}
use Rattle.judge.specs.declared.sound.Judged.{Judged}
use Rattle.journal.specs.Journal.{Journal, journal_of}
use Rattle.journal.specs.Numbers.{area_rules}
use Rattle.journal.specs.Sound.{is_sound}
use Rattle.judge.specs.Inner.Answered.{Judges}
use Rattle.calls.specs.Checks.{with_journal}

-- the number of the two tests, and what is asked past them
abbrev number : ℕ → Bool → Bool → ℕ
number more zero sound = cond zero no_meter (cond (not sound) damaged more)

stopped : (more : ℕ) (zero sound : Bool) → eqb (number accepted zero sound) accepted ≡ false → number more zero sound ≡ number accepted zero sound
stopped more true sound h = refl
stopped more false true h = cc
stopped more false false h = refl

passed : (more : ℕ) (zero sound : Bool) → accepted ≡ number accepted zero sound → number more zero sound ≡ more
passed more true sound e = cc
passed more false true e = refl
passed more false false e = cc

module _ (rules : Journal → List Rule) (area : List ℕ) (size : length area ≡ area_bytes) where
  abbrev first_number : ℕ
  first_number = first_broken (with_journal rules area)

  abbrev journal_number : ℕ
  journal_number = first_broken (rules (journal_of area))

  area_first : first_broken (area_rules area) ≡ number accepted (all_zero area) (is_sound area)
  unfolding area_rules
  area_first = refl

  journal_first : first_number ≡ number journal_number (all_zero area) (is_sound area)
  unfolding area_rules
  journal_first = refl

  module _ {day value : ℕ} where
    pub refused_number : {refusal : Refusal} → Judges area day value (Err refusal) → first_number ≡ number_of refusal
    refused_number {refusal} is =
        let e : number_of refusal ≡ number accepted (all_zero area) (is_sound area) = is.number_is size ∙ area_first in
        journal_first ∙ stopped journal_number (all_zero area) (is_sound area) (rw (← e) (refuses refusal)) ∙ sym e

    pub sound_number : {j : Judged} → Judges area day value (Ok j) → first_number ≡ journal_number
    sound_number is = journal_first ∙ passed journal_number (all_zero area) (is_sound area) (is.number_is size ∙ area_first)
