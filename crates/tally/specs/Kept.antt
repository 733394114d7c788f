-- 02, 6, A standing tally: "Kept so from an all-zero register and tally, a report from it always equals a full report, after folds and
-- withdrawals too". Beside demand 3: for every list of calls and every meter.
use Rattle.std.specs.Prelude.{◌≡◌, Bool, true, ◌&&◌, cond, List, [], ◌∷◌, ℕ, leb}
use Rattle.calls.specs.declared.call.Call.{Call}
use Rattle.calls.specs.declared.call.Call.TheVariants.{Enrol, Submit, Withdraw, Report as ReportCall, Fold, Trial}
use Rattle.calls.specs.declared.call.Reply.TheVariants.{Reported}
use Rattle.calls.specs.Calls.{step}
use Rattle.calls.specs.Play.{Exchange, register_after, zero_register, names}
use Rattle.calls.specs.DemandThree.{run_a}
use Rattle.tally.specs.declared.tally.Tally.{Tally}
use Rattle.tally.specs.Tally.{zero_tally, tally_report}
use Rattle.tally.specs.Change.{tally_after}

-- a tally that is changed "after every answered call on that meter"
unfoldable pub tally_over : ℕ → List Exchange → Tally → Tally
tally_over meter [] t = t
tally_over meter (x ∷ xs) t =
    tally_over meter xs (cond (names meter x.call) (tally_after x.call x.reply t) t)

-- 01: "day (2 bytes, 1 to 65,535)". A submission's day has two bytes in every program that can make one; a number of the logic may be larger.
abbrev pub most_day : ℕ
most_day = 65535

unfoldable pub is_dated : Call → Bool
is_dated (Enrol place profile dials capacity) = true
is_dated (Submit place s) = leb s.day most_day
is_dated (Withdraw place day value) = true
is_dated (ReportCall place) = true
is_dated (Fold place) = true
is_dated (Trial place s) = true

unfoldable pub are_dated : List Call → Bool
are_dated [] = true
are_dated (call ∷ calls) = is_dated call && are_dated calls

-- THE CLAIM: after every list of calls, refused ones included, a report from the tally is a full report of the meter, on every place
unfoldable pub TalliesReport : Type 0
TalliesReport =
    (meter : ℕ) (calls : List Call) → are_dated calls ≡ true
    → Reported (tally_report (tally_over meter (run_a calls) zero_tally)) ≡ (step (ReportCall meter) (register_after calls zero_register)).reply
