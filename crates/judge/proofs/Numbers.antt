-- What a judgement finds has the number of the first of the two rules that is broken.
use Rattle.std.specs.Prelude.{Result, Ok, Err, IfOk}
use mathlib.Core.Path.{◌≡◌, refl, ◌∙◌}
use mathlib.Core.Bool.{Bool, true, false, not, cond}
use mathlib.Core.List.{List}
use Prim.Native.Nat.{ℕ}
use Rattle.terms.specs.declared.refusal.Refusal.{Refusal}
use Rattle.terms.specs.declared.refusal.Refusal.TheVariants.{NoMeter, Damaged}
use Rattle.terms.specs.Number.{accepted, no_meter, damaged}
use Rattle.terms.specs.Refusal.{number_of, number_in}
use Rattle.register.specs.Area.{all_zero}
use Rattle.judge.specs.declared.area.Summary.{Summary}
use Rattle.judge.specs.declared.sound.Judged.{Judged}
use Rattle.journal.specs.Journal.{journal_of, withdrawn}
use Rattle.journal.specs.Numbers.{area_rules}
use Rattle.journal.specs.Sound.{any, has_read, is_sound}
use Rattle.judge.specs.Inner.Judged.{summary_of, judged}
use Rattle.judge.specs.Inner.Answered.{summary_in, Judges}

-- by the two tests
by_tests : (zero sound : Bool) (t : Summary) → number_in (cond zero (Err NoMeter) (cond sound (Ok t) (Err Damaged))) ≡ cond zero no_meter (cond (not sound) damaged accepted)
unfolding number_of
by_tests true sound t = refl
by_tests false true t = refl
by_tests false false t = refl

same_number : (r : Result Judged Refusal) → number_in r ≡ number_in (summary_in r)
same_number (Ok j) = refl
same_number (Err e) = refl

pub judges : (area : List ℕ) {day value : ℕ} (r : Result Judged Refusal) → summary_in r ≡ judged area → IfOk r (λ j. j.journal.area.now ≡ area) → IfOk r (λ j. j.withdrawn ≡ any (has_read day value) (withdrawn (journal_of area).entries)) → Judges area day value r
unfolding judged area_rules
judges area r e here among =
    record {
      found_is = e;
      number_is = λ size. same_number r ∙ rw (e, size) (by_tests (all_zero area) (is_sound area) (summary_of (journal_of area)));
      area_is = here;
      withdrawn_is = among;
    }

pub refused : (area : List ℕ) {day value : ℕ} {r : Refusal} → Err r ≡ judged area → Judges area day value (Err r)
refused area e = judges area (Err _) e tt tt
