-- The first one from the day on settles it.
use mathlib.Core.Path.{sym, ◌∙◌}
use lib.Dec.{ltb}
use borrow.Author.Tests.{le-ltb}
use Rattle.std.proofs.Common.{rules}
use Rattle.std.proofs.lemmas.List.Sorted.{IsPartitionPoint-from_clause}
use Rattle.judge.specs.Inner.Halving.{seen}
use Rattle.judge.proofs.Halved.{halved, none_found, one_found}
use Rattle.judge.proofs.halving.is_found.Goals as goal

pub returns-then-i-places : goal.returns-then-i-places
returns-then-i-places c =
    let read = seen c.args.body c.args.m in
    let places = c.args.places.now in
    let point = IsPartitionPoint-from_clause (λ k. ltb (read k).day c.args.day) places c.partition_point-i.result c.partition_point-i.ensures.partitioned (halved read places c.requires.rising c.args.day) (λ a r f k. search rules) in
    rw c.seen.ensures at c.has_read.ensures ∙ sym (one_found read places c.requires.rising c.args.day c.args.value point c.if-i-places.true)

pub returns-else-i-places : goal.returns-else-i-places
returns-else-i-places c =
    let read = seen c.args.body c.args.m in
    let places = c.args.places.now in
    let point = IsPartitionPoint-from_clause (λ k. ltb (read k).day c.args.day) places c.partition_point-i.result c.partition_point-i.ensures.partitioned (halved read places c.requires.rising c.args.day) (λ a r f k. search rules) in
    rw (le-ltb _ _ c.if-i-places.false) (sym (none_found read places c.requires.rising c.args.day c.args.value point c.if-i-places.false c.partition_point-i.ensures.bound))
