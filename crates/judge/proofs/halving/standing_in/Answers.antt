-- A place more where an entry stands, and the same places where it does not.
use mathlib.Core.Path.{refl, sym, ap}
use mathlib.Core.List.{List, ◌∷◌}
use native.Mathlib.Omega.{arith}
use borrow.Author.Tests.{lt-ltb, eq-eqb, ne_eqb}
use lib.ListN.{length-set}
use Rattle.terms.specs.declared.entry.Entry.{Entry}
use Rattle.terms.specs.Entry.{is_standing, those}
use Rattle.register.specs.Entries.{entry_start, entry_at}
use Rattle.journal.specs.Journal.{entries_to}
use Rattle.journal.proofs.Entries.{those_more}
use Rattle.judge.specs.Inner.Halving.{seen}
use Rattle.judge.proofs.Halved.{noted}
use Rattle.judge.proofs.halving.standing_in.Goals as goal
use Rattle.judge.proofs.halving.standing_in.Goals.{then-kind_at, else-kind_at}

pub loop-k-init : goal.loop-k-init
unfolding those entries_to
loop-k-init c = (omega arith, omega arith, refl)

pub loop-k-preserved : goal.loop-k-preserved
unfolding is_standing entry_at
loop-k-preserved c =
    let inv = c.loop-k.invariant in
    let bytes = c.args.body.bytes.now in
    let k = c.loop-k.k in
    elim c.if-kind_at.branch [
      | then-kind_at w ↦
          rw (w.room-is, w.n-is) (
            omega (arith, inv.0),
            simp length-set inv.1,
            rw (
              noted (seen c.args.body c.args.m) c.loop-k.room c.loop-k.n k (omega arith),
              lt-ltb k c.args.m (omega arith),
              those_more k bytes is_standing refl (sym (eq-eqb _ _ (rw c.kind_at.ensures at w.if-kind_at.true))),
            )
                (ap (λ (ss : List Entry). entry_at bytes (entry_start k) ∷ ss) inv.2),
          )
      | else-kind_at w ↦
          rw (w.room-is, w.n-is)
          (omega (arith, inv.0), inv.1, rw (those_more k bytes is_standing refl (sym (ne_eqb _ _ (rw c.kind_at.ensures at w.if-kind_at.false)))) inv.2)
    ]
