-- What the turns of a piece put, and then the text of the rest, is the text from its start on.
use Prim.Native.Nat.{◌-◌}
use lib.ListN.{length}
use Rattle.playing.proofs.Pieces.{Going}
use Rattle.playing.proofs.piece.play_from.Given as goal

abbrev pub invariant-loop-play : goal.invariant-loop-play
invariant-loop-play l = Going l.sheet l.initial.play l.play

abbrev pub decreases-loop-play : goal.decreases-loop-play
decreases-loop-play l = length l.sheet - l.play.so_far.at
