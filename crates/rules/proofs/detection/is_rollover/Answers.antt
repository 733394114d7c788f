-- The matches on the three last reads are the definition's, and so are the five tests.
use Rattle.rules.specs.Detection.{is_rollover}
use Rattle.rules.proofs.detection.is_rollover.Goals as goal

pub returns-in_default : goal.returns-in_default
unfolding is_rollover
returns-in_default c = rw c.in_default.is

pub returns-in_default-second : goal.returns-in_default-second
unfolding is_rollover
returns-in_default-second c = rw (c.in-Some.is, c.in_default-second.is)

pub returns-in_default-third : goal.returns-in_default-third
unfolding is_rollover
returns-in_default-third c = rw (c.in-Some.is, c.in-Some-second.is, c.in_default-third.is)

pub is_like_rate-requires : goal.is_like_rate-requires
is_like_rate-requires c = c.power-turn.ensures

pub is_small_turn-requires : goal.is_small_turn-requires
is_small_turn-requires c = c.power-turn.ensures

pub is_small_advance-requires : goal.is_small_advance-requires
is_small_advance-requires c = c.power-turn.ensures

pub is_small_advance-requires-2 : goal.is_small_advance-requires-2
is_small_advance-requires-2 c = c.power-turn.ensures

pub returns : goal.returns
unfolding is_rollover
returns c =
    rw (
      c.in-Some.is,
      c.in-Some-second.is,
      c.in-Some-third.is,
      c.is_near_turn.ensures,
      c.is_like_rate.ensures,
      c.is_small_turn.ensures,
      c.is_small_advance.ensures,
      c.is_small_advance-2.ensures,
    )
