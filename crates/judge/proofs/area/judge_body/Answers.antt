-- The pass is over all the entries, and is sound where the test of the whole says so.
use mathlib.Core.Path.{sym, ◌∙◌}
use Rattle.judge.proofs.Passes.{pass_run, held_some, passed_few}
use Rattle.judge.proofs.Verdicts.{disordered, body_damaged, body_judged, sound_answers}
use Rattle.judge.proofs.area.judge_body.Goals as goal

pub returns-then-not-is_whole : goal.returns-then-not-is_whole
returns-then-not-is_whole c =
    record { found_is = sym (body_damaged _ _ (sym c.is_whole.ensures ∙ c.if-not-is_whole.true)); withdrawn_is = tt }

pub returns-in_default : goal.returns-in_default
returns-in_default c = record { found_is = sym (body_damaged _ _ (disordered _ _ c.in_default.ensures)); withdrawn_is = tt }

pub summary_of-requires : goal.summary_of-requires
summary_of-requires c =
    let is = c.in-Some.ensures.0 in
    (record { few = passed_few c.args.body is; run_is = pass_run _ _ is.1.same }, held_some _ _ is.1)

pub returns : goal.returns
returns c =
    let is = c.in-Some.ensures in
    let judged = body_judged _ _ _ is.0 (sym c.is_whole.ensures ∙ c.if-not-is_whole.false) in
    sound_answers c.args.body.head _ (c.summary_of.ensures is.0.1) judged is.1
