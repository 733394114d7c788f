-- An answer is taken by its call.
use mathlib.Core.Path.{◌≡◌, refl}
use mathlib.Core.Bool.{Bool, true, false, cond}
use lib.Dec.{eqb}
use Rattle.terms.specs.declared.answer.Report.{Report}
use Rattle.terms.specs.Number.{accepted}
use Rattle.calls.specs.declared.call.Call.{Call}
use Rattle.calls.specs.declared.call.Call.TheVariants.{Enrol, Submit, Withdraw, Report as ReportCall, Fold, Trial}
use Rattle.calls.specs.declared.call.Reply.TheVariants.{Reported}
use Rattle.calls.specs.Play.{number_of}
use Rattle.tally.specs.declared.tally.Tally.{Tally}
use Rattle.tally.specs.Change.{taken, tally_after}
use Rattle.tally.proofs.change.changed.Goals as goal

-- a report's answer changes nothing, whatever the call
same : (b : Bool) (t : Tally) → t ≡ cond b t t
same true t = refl
same false t = refl

nothing : (call : Call) (r : Report) (t : Tally) → t ≡ tally_after call (Reported r) t
unfolding tally_after taken number_of
nothing (Enrol place profile dials capacity) r t = same (eqb r.number accepted) t
nothing (Submit place s) r t = same (eqb r.number accepted) t
nothing (Withdraw place day value) r t = same (eqb r.number accepted) t
nothing (ReportCall place) r t = same (eqb r.number accepted) t
nothing (Fold place) r t = same (eqb r.number accepted) t
nothing (Trial place s) r t = same (eqb r.number accepted) t

pub returns-in-Answered : goal.returns-in-Answered
returns-in-Answered c = rw c.in-Answered.is c.answered.ensures

pub returns-in-Reported : goal.returns-in-Reported
returns-in-Reported c =
    let a = c.args in
    rw c.in-Reported.is (nothing a.call _ a.t)
