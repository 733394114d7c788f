-- What the counts of a journal say of the order of reads.
use mathlib.Core.Path.{◌≡◌, refl}
use mathlib.Core.Bool.{false, not}
use mathlib.Core.List.{List, [], ◌∷◌}
use Prim.Native.Nat.{ℕ}
use native.Mathlib.Omega.{arith}
use Rattle.std.proofs.lemmas.Bool.Decides.{nat_tests}
use borrow.Author.Tests.{ne_eqb, lt-ltb}
use lib.Dec.{eqb, leb, ltb}
use lib.ListN.{length}
use Rattle.terms.specs.declared.entry.Entry.{Entry}
use Rattle.terms.specs.declared.submission.Submission.{Submission}
use Rattle.terms.specs.Entry.{slot_at}
use Rattle.journal.specs.Journal.{is_there, day_of, on_day}
use Rattle.journal.specs.Sound.{exists}
use Rattle.calls.specs.Checks.{is_bad_date, is_back_dated}

-- a day that is not after the last one is before it, where it is none and no read of that day stands
pub past_is : (s : Submission) (ss : List Entry) {last : ℕ} → last ≡ day_of (slot_at ss 0) → is_bad_date s ≡ false → is_there (on_day s.day ss) ≡ false → leb s.day last ≡ is_back_dated s (slot_at ss 0)
unfolding is_bad_date on_day is_there day_of slot_at is_back_dated
past_is s [] is b o = grind (arith, nat_tests)
past_is s (r ∷ ss) is b o = grind (arith, nat_tests)

-- a read stands if any is counted
pub none_counted : (ss : List Entry) → eqb (length ss) 0 ≡ not (exists ss)
unfolding exists
none_counted [] = refl
none_counted (s ∷ ss) = ne_eqb _ 0 (λ z. omega arith)

pub some_counted : (ss : List Entry) → ltb 0 (length ss) ≡ exists ss
unfolding exists
some_counted [] = refl
some_counted (s ∷ ss) = lt-ltb 0 _ (omega arith)
