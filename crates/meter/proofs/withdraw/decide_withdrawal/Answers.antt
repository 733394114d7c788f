-- The judgement decides the first two checks, and `check_withdrawal` the others.
use Rattle.terms.proofs.Refusals.{refuses, passed_on}
use Rattle.calls.specs.Checks.{withdraw_rules, withdraw_checks}
use Rattle.calls.specs.Calls.{withdraw_in}
use Rattle.meter.proofs.Judged.{refused_number, sound_number}
use Rattle.meter.proofs.withdraw.decide_withdrawal.Goals as goal

pub returns-in_err-judged : goal.returns-in_err-judged
unfolding withdraw_in withdraw_checks
returns-in_err-judged c =
    record {
      decision_is = rw (passed_on _ c.from_residual.ensures.1, refused_number (withdraw_rules c.args.day c.args.value) _ c.requires c.in_err-judged.ensures, refuses);
    }

pub returns-in_err-check_withdrawal : goal.returns-in_err-check_withdrawal
unfolding withdraw_in withdraw_checks
returns-in_err-check_withdrawal c =
    let is = c.in_ok-judged.ensures in
    record {
      decision_is = rw (passed_on _ c.from_residual-in_err-check_withdrawal.ensures.1, sound_number (withdraw_rules c.args.day c.args.value) _ c.requires is, ← is.area_is, ← c.in_err-check_withdrawal.ensures, refuses);
    }

pub returns : goal.returns
unfolding withdraw_in withdraw_checks
returns c =
    let is = c.in_ok-judged.ensures in
    let w = rw is.area_is at c.withdrawal_of.ensures in
    record {
      decision_is = rw (sound_number (withdraw_rules c.args.day c.args.value) _ c.requires is, ← is.area_is, ← c.in_ok-check_withdrawal.ensures, is.area_is, w.bytes_are, w.answer_is);
    }
