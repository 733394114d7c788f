-- What is noted are the places of the standing ones of the entries passed.
use mathlib.Core.Path.{◌≡◌}
use Prim.Native.Nat.{◌≤◌}
use lib.ListN.{length, take}
use Rattle.std.specs.Prelude.{reverse}
use Rattle.journal.specs.Journal.{standing}
use Rattle.judge.specs.Inner.Halving.{placed}
use Rattle.judge.specs.Inner.Run.{firsts}
use Rattle.judge.proofs.halving.standing_in.Given as goal

abbrev pub invariant-loop-k : goal.invariant-loop-k
invariant-loop-k l = (l.n ≤ l.k) × (length l.room ≡ 50) × (reverse (placed l.body l.m (take l.n l.room)) ≡ standing (firsts l.body l.k))
