-- The last standing entry by its position, and how many entries are kept.
use Rattle.std.specs.Prelude.{None}
use mathlib.Core.Path.{◌≡◌, refl, sym, ap, ◌∙◌}
use mathlib.Core.Bool.{Bool, true, false, not, ◌||◌, cond}
use mathlib.Core.List.{List, [], ◌∷◌}
use Prim.Native.Nat.{ℕ, zero, suc, ◌-◌, ◌≤◌, ◌<◌}
use native.Mathlib.Omega.{arith}
use borrow.Author.Tests.{eqb-true, not-true}
use lib.ListN.{length}
use Rattle.arithmetic.specs.Powers.{ten_to}
use Rattle.terms.specs.declared.entry.Entry.{Entry}
use Rattle.terms.specs.Entry.{kind_held, is_standing, is_withdrawn, is_held, keep_if, those, slot_at}
use Rattle.register.specs.declared.head.Head.{Head}
use Rattle.register.specs.Entries.{entry_start, entry_at}
use Rattle.judge.specs.declared.area.Summary.{Summary}
use Rattle.judge.specs.declared.pass.Pass.{Pass}
use Rattle.judge.specs.declared.run.Run.{Run}
use Rattle.journal.specs.Journal.{entries_to, standing, kept, is_kept, slot_if, held_of, is_there, newest_at}
use Rattle.journal.specs.Sound.{any, is_final_read, is_in_range, is_read, are_in_order}
use Rattle.journal.specs.Inner.Follow.{may_follow}
use Rattle.judge.specs.Inner.Run.{run_of}
use Rattle.judge.specs.Inner.Pass.{pass_of}
use Rattle.judge.specs.Inner.Judged.{value_of, counts_of, summary_of}
use Rattle.journal.proofs.Bools.{false_is, both}
use Rattle.journal.proofs.Entries.{length_entries}
use Rattle.journal.proofs.InOrder.{in_order_more}

-- ---- the last standing entry
pub none_there : (ss : List Entry) → length ss ≡ 0 → ss ≡ []
none_there [] h = refl
none_there (s ∷ ss) h = absurd (omega arith)

module _ (a : List ℕ) where
  pub newest_entry : (m : ℕ) → (length (standing (entries_to m a)) ≡ 0 → ⊥) → (newest_at (entries_to m a) < m) × (standing (entries_to m a) ≡ entry_at a (entry_start (newest_at (entries_to m a))) ∷ standing (entries_to (newest_at (entries_to m a)) a))
  unfolding entries_to those newest_at
  newest_entry zero h = absurd (h refl)
  newest_entry (suc k) h = cases (is_standing (entry_at a (entry_start k))) refl (newest_entry k) where
    cases : (b : Bool) → is_standing (entry_at a (entry_start k)) ≡ b → ((length (standing (entries_to k a)) ≡ 0 → ⊥) → (newest_at (entries_to k a) < k) × (standing (entries_to k a) ≡ entry_at a (entry_start (newest_at (entries_to k a))) ∷ standing (entries_to (newest_at (entries_to k a)) a))) → (newest_at (entries_to (suc k) a) < suc k) × (standing (entries_to (suc k) a) ≡ entry_at a (entry_start (newest_at (entries_to (suc k) a))) ∷ standing (entries_to (newest_at (entries_to (suc k) a)) a))
    cases true e rest = rw (e, length_entries k a) (omega arith, refl)
    cases false e rest = let old = rest (rw e at h) in rw e (omega (arith, old.0), old.1)

-- by what is counted of them
module _ (m : ℕ) {stands newest : ℕ} (a : List ℕ) (counted : stands ≡ length (standing (entries_to m a))) (at : newest ≡ newest_at (entries_to m a)) where
  pub none_counted : stands ≡ 0 → standing (entries_to m a) ≡ []
  none_counted h = none_there _ (sym counted ∙ h)

  pub last_below : (stands ≡ 0 → ⊥) → newest < m
  last_below h = rw at (newest_entry a m (λ z. h (counted ∙ z))).0

  pub last_counted : (stands ≡ 0 → ⊥) → standing (entries_to m a) ≡ entry_at a (entry_start newest) ∷ standing (entries_to newest a)
  last_counted h = rw at (newest_entry a m (λ z. h (counted ∙ z))).1

module _ (run : Run) (a : List ℕ) (is : run ≡ run_of (entries_to run.count a)) where
  counted : run.standing ≡ length (standing (entries_to run.count a))
  unfolding run_of
  counted = ap (λ (r : Run). r.standing) is

  newest_is : run.newest ≡ newest_at (entries_to run.count a)
  unfolding run_of
  newest_is = ap (λ (r : Run). r.newest) is

  pub none_standing : run.standing ≡ 0 → standing (entries_to run.count a) ≡ []
  none_standing h = none_counted run.count a counted newest_is h

  pub run_below : {most : ℕ} → run.count ≤ most → (run.standing ≡ 0 → ⊥) → run.newest < most
  run_below few h = omega (arith, last_below run.count a counted newest_is h)

  pub run_newest : (run.standing ≡ 0 → ⊥) → standing (entries_to run.count a) ≡ entry_at a (entry_start run.newest) ∷ standing (entries_to run.newest a)
  run_newest h = last_counted run.count a counted newest_is h

-- ---- the entries that are kept: all but a held one, which is the last
held_only : (e : Entry) → is_held e ≡ true → (is_standing e ≡ false) × (is_withdrawn e ≡ false)
unfolding is_held is_standing is_withdrawn
held_only e h = rw (eqb-true e.kind kind_held h) (refl, refl)

kept_one : (s w h : Bool) (e : Entry) (ks es : List Entry) → length ks ≡ length es → s || (w || h) ≡ true → (h ≡ true → (s ≡ false) × (w ≡ false)) → length (keep_if (s || w) e ks) ≡ cond (is_there (slot_if h e None)) (suc (length es) - 1) (suc (length es))
unfolding is_there
kept_one true w true e ks es l k o = false_is (sym (o refl).0)
kept_one true w false e ks es l k o = ap suc l
kept_one false true true e ks es l k o = false_is (sym (o refl).1)
kept_one false true false e ks es l k o = ap suc l
kept_one false false true e ks es l k o = let same : length es ≡ suc (length es) - 1 = omega arith in l ∙ same
kept_one false false false e ks es l k o = false_is k

pub kept_all : (head : Head) (es : List Entry) → are_in_order head es ≡ true → kept es ≡ cond (is_there (held_of es)) (length es - 1) (length es)
unfolding those held_of is_there may_follow is_read
kept_all head [] h = refl
kept_all head (e ∷ es) h =
    let parts = both (may_follow head e (slot_at (standing es) 0) (held_of es) (any is_final_read (standing es))) (are_in_order head es) (rw in_order_more at h) in
    let read = both (is_read head e) _ parts.0 in
    let unheld = not-true (is_there (held_of es)) (both (not (is_there (held_of es))) _ read.1).0 in
    let kind = (both (is_standing e || (is_withdrawn e || is_held e)) (is_in_range head e) read.0).0 in
    let before : kept es ≡ length es = rw unheld at (kept_all head es parts.1) in
    kept_one (is_standing e) (is_withdrawn e) (is_held e) e (those is_kept es) es before kind (held_only e)

-- ---- the summary of a pass
pub summary_is : (head : Head) (es : List Entry) (p : Pass) {keeps last limit : ℕ} → p ≡ pass_of p.apart es → are_in_order head es ≡ true → keeps ≡ cond p.held (p.run.count - 1) p.run.count → last ≡ value_of (slot_at (standing es) 0) → limit ≡ ten_to head.dials → ◌≡◌ {A = Summary} (record {
  head = head;
  counts = record { kept = keeps; standing = p.run.standing; flagged = p.run.flagged; first = p.run.first; newest = p.run.newest };
  last = last;
  day = p.run.day;
  limit = limit;
  entries = p.run.count;
  ended = p.ended;
}) (summary_of (record { head = head; entries = es }))
unfolding pass_of run_of summary_of counts_of
summary_is head es p same order keeps last limit = rw (keeps, last, limit, same, kept_all head es order)
