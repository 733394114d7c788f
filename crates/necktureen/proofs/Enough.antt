-- What a program tells of a call and its reply is enough, and so it is over a whole list.
use mathlib.Core.Path.{ap, ◌∙◌}
use Rattle.calls.specs.declared.call.Reply.TheVariants.{Reported}
use Rattle.calls.specs.Calls.{step}
use Rattle.calls.specs.Play.{zero_register}
use Rattle.calls.proofs.Replies.{reply_form}
use Rattle.tally.specs.declared.tally.Tally.{Tally}
use Rattle.tally.specs.Tally.{zero_tally, tally_report}
use Rattle.tally.specs.Kept.{TalliesReport}
use Rattle.tally.proofs.Runs.{tallies_report}
use Rattle.necktureen.specs.Told.{ToldIsEnough, ToldTalliesReport}
use Rattle.necktureen.proofs.Tells.{tells}
use Rattle.necktureen.proofs.ToldOver.{told_over_lem}

pub told_is_enough : ToldIsEnough
unfolding ToldIsEnough
told_is_enough call register = tells call (step call register).reply (reply_form call register)

pub told_tallies_report : ToldTalliesReport
unfolding ToldTalliesReport TalliesReport
told_tallies_report meter any calls dated =
    ap (λ (t : Tally). Reported (tally_report t)) (told_over_lem meter any calls zero_register zero_tally) ∙ tallies_report meter calls dated
