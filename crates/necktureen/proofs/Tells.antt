-- What a program tells of a call and its reply is enough: kind by kind, a tally asks for nothing else.
use mathlib.Core.Path.{◌≡◌, refl}
use mathlib.Core.Bool.{Bool, true, false, cond}
use lib.Dec.{eqb}
use Rattle.terms.specs.declared.profile.Profile.TheVariants.{Ordinary, Pseudo}
use Rattle.terms.specs.Number.{accepted}
use Rattle.calls.specs.declared.call.Call.{Call}
use Rattle.calls.specs.declared.call.Call.TheVariants.{Enrol, Submit, Withdraw, Report as ReportCall, Fold, Trial}
use Rattle.calls.specs.declared.call.Reply.{Reply}
use Rattle.calls.specs.declared.call.Reply.TheVariants.{Answered, Reported}
use Rattle.calls.specs.Play.{exchange, number_of}
use Rattle.calls.proofs.Bools.{apart}
use Rattle.calls.proofs.Replies.{is_report, is_reported}
use Rattle.sheet.specs.Sheet.{kind_byte, form_of}
use Rattle.tally.specs.declared.tally.Tally.{Tally}
use Rattle.tally.specs.Change.{taken, tally_after}
use Rattle.necktureen.specs.Told.{told_call, told_kind, told_of, Told, kind_told, dials_of, value_of, flag_told, advance_told, exchange_told, told_by}

-- a trial changes nothing, whatever it is answered
same : (b : Bool) (t : Tally) → t ≡ cond b t t
same true t = refl
same false t = refl

-- a call and a reply of its form
pub tells : (call : Call) (reply : Reply) → is_reported reply ≡ is_report call → (any : Told) (t : Tally) → told_by (exchange_told (exchange call reply) any) t ≡ tally_after call reply t
unfolding told_by exchange_told told_of told_kind told_call kind_told dials_of value_of flag_told advance_told kind_byte form_of number_of tally_after taken is_report is_reported
tells (Enrol place Ordinary dials capacity) (Answered a) form any t = refl
tells (Enrol place Pseudo dials capacity) (Answered a) form any t = refl
tells (Enrol place profile dials capacity) (Reported r) form any t = absurd (apart refl form)
tells (Submit place s) (Answered a) form any t = refl
tells (Submit place s) (Reported r) form any t = absurd (apart refl form)
tells (Withdraw place day value) (Answered a) form any t = refl
tells (Withdraw place day value) (Reported r) form any t = absurd (apart refl form)
tells (ReportCall place) reply form any t = refl
tells (Fold place) reply form any t = refl
tells (Trial place s) reply form any t = same (eqb (number_of reply) accepted) t
