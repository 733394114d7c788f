-- The number of the threshold decides where it is not 0, and else the capacity.
use mathlib.Core.Path.{sym, ap, ◌∙◌}
use native.Mathlib.Omega.{arith}
use Rattle.terms.specs.Refusal.{number_of}
use Rattle.terms.proofs.Refusals.{refuses, passed_on}
use Rattle.rules.specs.Volume.{compared_number}
use Rattle.rules.proofs.Laws.{advance_word, word_within}
use Rattle.rules.proofs.Queries.{threshold_first, none_stands, threshold_over, capacity_tested}
use Rattle.rules.proofs.volume.volume.Goals as goal

pub returns-in_default : goal.returns-in_default
returns-in_default c = sym (none_stands _ _ _ c.args.recent _ c.in_default.is)

pub compare-requires : goal.compare-requires
compare-requires c = word_within (advance_word _ _ _ _ c.advance-a.ensures (omega arith) (omega arith) (omega arith))

pub is_within_capacity-requires : goal.is_within_capacity-requires
is_within_capacity-requires c = word_within (advance_word _ _ _ _ c.advance-a.ensures (omega arith) (omega arith) (omega arith))

pub returns-in_err-within_threshold : goal.returns-in_err-within_threshold
returns-in_err-within_threshold c =
    let a = advance_word _ _ _ _ c.advance-a.ensures (omega arith) (omega arith) (omega arith) in
    let found = c.compare.ensures ∙ threshold_over _ _ _ c.args.recent c.in-Some.is a.reads in
    let number = c.in_err-within_threshold.ensures ∙ ap compared_number found in
    rw (passed_on _ c.from_residual.ensures.1, threshold_first, ← number, refuses)

pub returns-then-has_volume_check-is_within_capacity : goal.returns-then-has_volume_check-is_within_capacity
unfolding number_of
returns-then-has_volume_check-is_within_capacity c =
    let a = advance_word _ _ _ _ c.advance-a.ensures (omega arith) (omega arith) (omega arith) in
    let found = c.compare.ensures ∙ threshold_over _ _ _ c.args.recent c.in-Some.is a.reads in
    rw (threshold_first, ← found, ← c.in_ok-within_threshold.ensures, ← capacity_tested _ _ _ c.args.recent c.in-Some.is a.reads _ c.has_volume_check.ensures c.is_within_capacity.ensures, c.if-has_volume_check-is_within_capacity.true)

pub returns : goal.returns
returns c =
    let a = advance_word _ _ _ _ c.advance-a.ensures (omega arith) (omega arith) (omega arith) in
    let found = c.compare.ensures ∙ threshold_over _ _ _ c.args.recent c.in-Some.is a.reads in
    rw (threshold_first, ← found, ← c.in_ok-within_threshold.ensures, ← capacity_tested _ _ _ c.args.recent c.in-Some.is a.reads _ c.has_volume_check.ensures c.is_within_capacity.ensures, c.if-has_volume_check-is_within_capacity.false)
