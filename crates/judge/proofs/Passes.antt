-- The pass after one entry more, and how it ends.
use Rattle.std.specs.Prelude.{Option, Some, None}
use mathlib.Core.Path.{◌≡◌, refl, sym, ap, ◌∙◌}
use mathlib.Core.Bool.{Bool, true, false, not, ◌&&◌, ◌||◌, or-true}
use mathlib.Core.List.{List, [], ◌∷◌}
use Prim.Native.Nat.{ℕ, zero, suc, ◌+◌, ◌-◌, ◌≤◌, ◌<◌}
use native.Mathlib.Numerals.{add-one}
use native.Mathlib.Omega.{arith}
use borrow.Author.Tests.{eqb-true, ne_eqb, lt-ltb}
use lib.Dec.{eqb}
use lib.ListN.{length}
use Rattle.terms.specs.declared.entry.Entry.{Entry}
use Rattle.terms.specs.Letter.{letter_i, letter_o, is_known, is_opening, is_final}
use Rattle.terms.specs.Entry.{is_standing, is_held, those, slot_at}
use Rattle.register.specs.declared.head.Head.{Head}
use Rattle.register.specs.Bytes.{byte_at}
use Rattle.register.specs.Entries.{entry_start, entry_at}
use Rattle.judge.specs.declared.body.Body.{Body}
use Rattle.judge.specs.declared.pass.Pass.{Pass}
use Rattle.judge.specs.declared.run.Run.{Run}
use Rattle.register.specs.Head.{most_entries}
use Rattle.journal.specs.Journal.{entries_to, count_from, standing, withdrawn, held_of, is_there, first_value, newest_at, day_of}
use Rattle.journal.specs.Sound.{every, any, is_final_read, holds, opens, is_in_range, is_read, days_rise, opens_right, has_one_final, is_held_right, are_in_order, are_apart}
use Rattle.journal.specs.Inner.Loops.{stands_by, follows_by}
use Rattle.judge.specs.Inner.Profile.{takes_all}
use Rattle.judge.specs.Inner.Run.{firsts, run_of, IsRun}
use Rattle.judge.specs.Inner.Plain.{IsOpen, RunsTo}
use Rattle.judge.specs.Inner.Index.{Indexed}
use Rattle.judge.specs.Inner.Judged.{count_in}
use Rattle.judge.specs.Inner.Pass.{pass_of, IsPass, Follows, OneMore, IsPassed, First, Starts, PassesTo, IsClear, Reaches, Extends, GoesOn}
use Rattle.journal.proofs.Bools.{false_is, both}
use Rattle.journal.proofs.Entries.{any_kept, one_more, length_entries, count_on, count_past, count_from_most}
use Rattle.journal.proofs.InOrder.{in_order_more, by_numbers, days_rise_lem, stands_unheld, disordered_stays}
use Rattle.judge.proofs.Clashes.{stands_unwithdrawn, stays_apart}
use Rattle.judge.proofs.Runs.{there_counted, held_there, takes_known}

pub pass_more : (before after : Bool) (e : Entry) (es : List Entry) → pass_of after (e ∷ es) ≡ record {
  run = run_of (e ∷ es);
  held = is_held e;
  ended = (is_standing e && is_final_read e) || (pass_of before es).ended;
  apart = after;
}
unfolding pass_of those held_of
pass_more before after e es = simp (held_there, any_kept)

-- whether one entry more may follow those of a pass
pub order_more : (head : Head) (p : Pass) (e : Entry) (es : List Entry) → p ≡ pass_of p.apart es → are_in_order head (e ∷ es) ≡ follows_by head e (not (eqb p.run.standing 0)) p.run.day p.held p.ended && are_in_order head es
unfolding pass_of run_of
order_more head p e es same = rw same (simp (in_order_more, by_numbers, there_counted))

pub pass_run : {p : Pass} (clear : Bool) (es : List Entry) → p ≡ pass_of clear es → p.run ≡ run_of es
unfolding pass_of
pass_run clear es h = ap (λ (q : Pass). q.run) h

-- where an entry is held there is one
pub held_some : {p : Pass} (head : Head) (body : List ℕ) → IsPass head body p → p.held ≡ true → 0 < p.run.count
unfolding pass_of entries_to held_of is_there
held_some {p} head body is h = some p.run.count (sym (ap (λ (q : Pass). q.held) is.same) ∙ h)
  where
    some : (k : ℕ) → (pass_of p.apart (entries_to k body)).held ≡ true → 0 < k
    some zero t = false_is t
    some (suc k) t = omega arith

-- ---- one entry on
module _ (b : Body) (e : Entry) (p : Pass) (is_run : IsRun b p.run) (read : e ≡ entry_at b.bytes.now (entry_start p.run.count)) (small : p.run.count < b.most) where
  abbrev es : List Entry
  es = firsts b p.run.count

  on : firsts b (p.run.count + 1) ≡ e ∷ es
  on = rw (one_more p.run.count b.bytes.now, ← read)

  reaches : Reaches b p (p.run.count + 1)
  reaches = record { more = omega arith; few = omega arith; goes = λ some. count_on b.most p.run.count b.bytes.now small some }

  module _ {clear : Bool} (free : IsClear b.bytes.now p.run e clear) {index : List ℕ} (indexed : Indexed b.bytes.now (p.run.count + 1) index) where
    module _ (q : Pass) (f : Follows b.head p clear e q) where
      counted : q.run.count ≡ p.run.count + 1
      unfolding run_of
      counted = ap (λ (r : Run). r.count) (f.run es is_run.run_is) ∙ rw (length_entries p.run.count b.bytes.now, add-one)

      on_q : firsts b q.run.count ≡ e ∷ es
      on_q = rw (counted, on)

      apart_is : IsPass b.head b.bytes.now p → q.apart ≡ true → are_apart (standing (e ∷ es)) (withdrawn (e ∷ es)) ≡ true
      apart_is is h =
          let parts = both p.apart clear (sym f.apart ∙ h) in
          stays_apart e es (free parts.1 is_run.run_is (days_rise_lem b.head es is.ordered)) (is.apart parts.0)

      entry_on : Extends b p q index
      entry_on =
          record {
            reaches = rw counted reaches;
            run_is = rw on_q (f.run es is_run.run_is);
            pass =
                λ is.
                record {
                  same = f.same es is.same ∙ ap (λ (xs : List Entry). pass_of q.apart xs) (sym on_q);
                  ordered = rw on_q (f.ordered es is.same is.ordered);
                  apart = λ h. rw on_q (apart_is is h);
                };
            indexed = rw counted indexed;
          }

    pub entry_more : (r : Option Pass) → OneMore b.head p clear e r → GoesOn b p r index
    entry_more (Some q) f = entry_on q f
    entry_more None bad = (p.run.count + 1, reaches, λ is. rw on (bad es is.same))

-- ---- the pass and what is open
pub pass_open : {head : Head} {body : List ℕ} (p : Pass) → IsPass head body p → (p.run.standing ≡ 0 → ⊥) → p.held ≡ false → IsOpen head p.ended p.apart (entries_to p.run.count body)
unfolding pass_of run_of
pass_open {head} {body} p is some h =
    let es = entries_to p.run.count body in
    let counted : p.run.standing ≡ length (standing es) = ap (λ (q : Pass). q.run.standing) is.same in
    record {
      ordered = is.ordered;
      stands = rw (there_counted, ← counted, ne_eqb p.run.standing 0 some);
      unheld = sym (ap (λ (q : Pass). q.held) is.same) ∙ h;
      ended_is = sym (ap (λ (q : Pass). q.ended) is.same);
      apart = is.apart;
    }

pub open_pass : {head : Head} {body : List ℕ} {ended clear : Bool} (run : Run) → run ≡ run_of (entries_to run.count body) → IsOpen head ended clear (entries_to run.count body) → IsPass head body (record { run = run; held = false; ended = ended; apart = clear })
unfolding pass_of
open_pass run is op = record { same = rw (← is, op.unheld, op.ended_is); ordered = op.ordered; apart = op.apart }

-- what goes on is in order as long as it is a pass
pub passes_on : {b : Body} {p q : Pass} {index : List ℕ} → PassesTo b p q → Indexed b.bytes.now q.run.count index → (q.run.count ≡ p.run.count → ⊥) → Extends b p q index
passes_on to indexed other =
    record {
      reaches = record { more = omega (arith, to.more); few = to.runs.few; goes = λ some. to.goes };
      run_is = to.runs.run_is;
      pass = to.pass;
      indexed = indexed;
    }

-- one entry after none that was plain
module _ {b : Body} {p q : Pass} (to : PassesTo b p q) (same : q.run.count ≡ p.run.count) where
  reaches_after : (k : ℕ) → Reaches b q k → Reaches b p k
  reaches_after k more = record { more = omega (arith, more.more); few = more.few; goes = λ some. to.goes ∙ more.goes (rw same some) }

  pub goes_after : (index : List ℕ) (r : Option Pass) → GoesOn b q r index → GoesOn b p r index
  goes_after index (Some r) more =
      record { reaches = reaches_after r.run.count more.reaches; run_is = more.run_is; pass = λ is. more.pass (to.pass is); indexed = more.indexed }
  goes_after index None ends = (ends.0, reaches_after ends.0 ends.1, λ is. ends.2 (to.pass is))

-- ---- where the pass starts, and where it has passed all
-- the whole of a body, and where it ends before
module _ (b : Body) (p : Pass) (is : IsPass b.head b.bytes.now p) (goes : count_from (b.most - p.run.count) p.run.count b.bytes.now ≡ count_from b.most 0 b.bytes.now) where
  whole : count_from (b.most - p.run.count) p.run.count b.bytes.now ≡ count_in b.head b.bytes.now
  whole = goes ∙ ap (λ (m : ℕ). count_from m 0 b.bytes.now) b.most_is

  pub all_passed : count_from (b.most - p.run.count) p.run.count b.bytes.now ≡ p.run.count → IsPassed b.head b.bytes.now (Some p)
  all_passed ends = (sym ends ∙ whole, is)

  -- the first that is not in order decides the whole
  pub never_passed : (index : List ℕ) → (byte_at b.bytes.now (entry_start p.run.count) ≡ 0 → ⊥) → GoesOn b p None index → IsPassed b.head b.bytes.now None
  never_passed index some ends =
      let k = ends.0 in
      let least : k ≤ count_in b.head b.bytes.now = omega (arith, count_past b.most k b.bytes.now (sym (ends.1.goes some) ∙ goes), ap (λ (m : ℕ). count_from m 0 b.bytes.now) b.most_is) in
      disordered_stays b.head b.bytes.now k (count_in b.head b.bytes.now) least (ends.2 is)

pub passed_few : (b : Body) {p : Pass} → IsPassed b.head b.bytes.now (Some p) → p.run.count ≤ b.most
passed_few b is = omega (arith, is.0, count_from_most (most_entries b.head) b.bytes.now, b.most_is)

start_goes : (most : ℕ) (body : List ℕ) → count_from (most - 0) 0 body ≡ count_from most 0 body
start_goes most body =
    let e : most - 0 ≡ most = omega arith in
    rw e

-- ---- the read that opens a journal
opening_is : (l : ℕ) → is_opening l ≡ true → (is_known l ≡ true) × (is_final l ≡ false)
unfolding is_opening is_known is_final
opening_is l h = cases (eqb l letter_i) refl where
  cases : (b : Bool) → eqb l letter_i ≡ b → (is_known l ≡ true) × (is_final l ≡ false)
  cases true e = rw (eqb-true l letter_i e) (refl, refl)
  cases false e = rw (eqb-true l letter_o (rw e at h)) (refl, refl)

module _ (b : Body) {e : Entry} (all : takes_all b.head.profile ≡ true) (first : First b.limit e) where
  read_is : is_read b.head e ≡ true
  unfolding is_read is_in_range holds
  read_is =
      rw (
        first.stands,
        ne_eqb e.day 0 first.dated,
        ← b.limit_is,
        lt-ltb e.value b.limit first.small,
        takes_known b.head.profile e.letter all (opening_is e.letter first.opening).0,
        first.opening,
        first.indicator,
        first.flag,
      )

  first_follows : follows_by b.head e false 0 false false ≡ true
  unfolding follows_by stands_by opens
  first_follows = rw (read_is, first.stands, first.opening, first.flag, or-true, (opening_is e.letter first.opening).1)

  first_open : IsOpen b.head false true (e ∷ [])
  unfolding are_in_order are_apart every any those held_of is_there slot_at day_of days_rise opens_right has_one_final is_held_right
  first_open =
      record {
        ordered = rw (in_order_more b.head e [], by_numbers, first_follows);
        stands = rw first.stands;
        unheld = rw (stands_unheld e first.stands);
        ended_is = rw (first.stands, (opening_is e.letter first.opening).1);
        apart = λ c. rw (stands_unwithdrawn e first.stands);
      }

-- nothing passed
pub none_run : (run : Run) → (run.first ≡ 0) × ((run.day ≡ 0) × ((run.count ≡ 0) × ((run.standing ≡ 0) × ((run.flagged ≡ 0) × (run.newest ≡ 0))))) → run ≡ run_of []
unfolding run_of those slot_at first_value newest_at day_of
none_run run z =
    let same : ◌≡◌ {A = Run} (record { first = run.first; day = run.day; count = run.count; standing = run.standing; flagged = run.flagged; newest = run.newest }) (run_of []) =
    rw (z.0, z.1.0, z.1.1.0, z.1.1.1.0, z.1.1.1.1.0, z.1.1.1.1.1) in
    same

-- a pass over nothing, and over the read that opens and what follows it
pub starts_none : (b : Body) {run : Run} → run ≡ run_of [] → Starts b (record { run = run; held = false; ended = false; apart = true })
unfolding pass_of run_of are_in_order are_apart every any days_rise opens_right has_one_final is_held_right those held_of is_there slot_at first_value newest_at day_of entries_to
starts_none b is =
    rw is
    (record {
      few = omega arith;
      goes = start_goes b.most b.bytes.now;
      pass = record { same = refl; ordered = refl; apart = λ c. refl };
      none = refl;
    })

module _ (b : Body) {e : Entry} (read : e ≡ entry_at b.bytes.now (entry_start 0)) (some : 0 < b.most) where
  one_read : firsts b 1 ≡ e ∷ []
  unfolding entries_to
  one_read = rw (← read)

  pub first_run : {run : Run} → run.count ≡ 1 → run ≡ run_of (e ∷ []) → is_standing e ≡ true → IsRun b run × (run.standing ≡ 0 → ⊥)
  unfolding run_of those
  first_run {run} one is s =
      let counted : run.standing ≡ length (standing (e ∷ [])) = ap (λ (r : Run). r.standing) is in
      let stands : length (standing (e ∷ [])) ≡ 1 = rw s in
      (record { few = omega arith; run_is = is ∙ ap (λ (xs : List Entry). run_of xs) (sym (rw (one, one_read))) }, λ none. omega arith)

  pub starts_first : {opened run : Run} → takes_all b.head.profile ≡ true → First b.limit e → opened.count ≡ 1 → RunsTo b opened run → (withdrawn (firsts b opened.count) ≡ [] → withdrawn (firsts b run.count) ≡ []) → Starts b (record { run = run; held = false; ended = false; apart = true })
  unfolding entries_to entry_at is_standing those
  starts_first {opened} {run} all first one runs none =
      let body = b.bytes.now in
      let kind : byte_at body (entry_start 0) ≡ 0 → ⊥ = λ z. (let k : e.kind ≡ 2 = eqb-true _ _ first.stands in let n : e.kind ≡ 0 = rw read z in omega arith) in
      let on : firsts b opened.count ≡ e ∷ [] = ap (λ (k : ℕ). firsts b k) one ∙ one_read in
      record {
        few = runs.runs.few;
        goes = sym runs.goes ∙ ap (λ (k : ℕ). count_from (b.most - k) k body) one ∙ sym (count_on b.most 0 body some kind) ∙ start_goes b.most body;
        pass = open_pass run runs.runs.run_is (runs.opened false true all (rw on (first_open b all first)));
        none = none (rw (on, stands_unwithdrawn e first.stands));
      }
