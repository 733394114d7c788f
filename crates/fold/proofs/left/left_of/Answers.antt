-- What is written is what stays of the entries passed, and no more of them than were passed.
use native.Mathlib.Omega.{arith}
use Rattle.terms.specs.Entry.{those}
use Rattle.journal.specs.Journal.{entries_to}
use Rattle.journal.proofs.Entries.{those_at_most, length_entries, one_more}
use Rattle.calls.specs.Fold.{stays}
use Rattle.fold.proofs.left.left_of.Goals.{then-stays, else-stays}
use Rattle.fold.proofs.left.left_of.Goals as goal

pub loop-k-init : goal.loop-k-init
unfolding entries_to those
loop-k-init c = c.new-left.ensures

pub push-requires : goal.push-requires
push-requires c =
    let body = c.args.body.now in
    omega (arith, c.loop-k.invariant.count_is, those_at_most (stays c.args.oldest) (entries_to c.loop-k.k body), length_entries c.loop-k.k body)

pub loop-k-preserved : goal.loop-k-preserved
unfolding those
loop-k-preserved c =
    elim c.if-stays.branch [
      | then-stays w ↦ rw (w.left-is, one_more, ← c.entry_after-e.ensures, ← c.stays.ensures, w.if-stays.true) (w.push.ensures _ _ c.loop-k.invariant)
      | else-stays w ↦ rw (w.left-is, one_more, ← c.entry_after-e.ensures, ← c.stays.ensures, w.if-stays.false) c.loop-k.invariant
    ]
