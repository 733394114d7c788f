-- What is left of the sheet, played on what the turns so far left, makes the whole of it; at the end nothing is left.
use Prim.Native.Nat.{◌-◌}
use lib.ListN.{length}
use Rattle.playing.proofs.Turns.{Playing}
use Rattle.playing.proofs.whole.play.Given as goal

abbrev pub invariant-loop-play : goal.invariant-loop-play
invariant-loop-play l = Playing l.sheet l.initial.play l.play

abbrev pub decreases-loop-play : goal.decreases-loop-play
decreases-loop-play l = length l.sheet - l.play.so_far.at
