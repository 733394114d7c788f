-- The standing ones of some entries, by the last of them.
use mathlib.Core.Path.{◌≡◌, sym, ◌∙◌}
use mathlib.Core.List.{List, [], ◌∷◌}
use Prim.Native.Nat.{ℕ, suc, ◌-◌}
use native.Mathlib.Omega.{arith}
use Rattle.terms.specs.Entry.{those}
use Rattle.register.specs.Entries.{entry_start, entry_at}
use Rattle.journal.specs.Journal.{entries_to, standing}
use Rattle.journal.proofs.Entries.{last_entry}
use Rattle.reads.specs.Inner.Back.{EndsStanding}

module _ (a : List ℕ) (m r : ℕ) (ends : EndsStanding a m r) where
  pub none_left : r ≡ 0 → standing (entries_to m a) ≡ []
  unfolding entries_to those
  none_left e = sym ends.same ∙ rw e

  pub one_left : (r ≡ 0 → ⊥) → standing (entries_to m a) ≡ entry_at a (entry_start (r - 1)) ∷ standing (entries_to (r - 1) a)
  unfolding those
  one_left some =
      let e : r ≡ suc (r - 1) = omega (arith, some) in
      sym ends.same ∙ rw (last_entry a e, ends.stands (r - 1) e)
