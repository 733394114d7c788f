-- Runs of plain entries: what is kept of one entry more, and that a journal that is open stays so.
use Rattle.std.specs.Prelude.{None}
use mathlib.Core.Path.{◌≡◌, refl, sym, ap, ◌∙◌}
use mathlib.Core.Bool.{Bool, true, false, not, ◌&&◌, ◌||◌, cond}
use mathlib.Core.List.{List, [], ◌∷◌}
use Prim.Native.Nat.{ℕ, suc, ◌+◌, ◌-◌, ◌≤◌, ◌<◌}
use native.Mathlib.Numerals.{add-one}
use native.Mathlib.Omega.{arith}
use borrow.Author.Tests.{lt-ltb, le-leb, ne_eqb, eqb-true}
use lib.Dec.{eqb}
use lib.ListN.{length}
use Rattle.terms.specs.declared.entry.Entry.{Entry}
use Rattle.terms.specs.Entry.{kind_withdrawn, is_standing, is_withdrawn, is_held, keep_if, those, slot_at}
use Rattle.terms.specs.declared.profile.Profile.{Profile}
use Rattle.terms.specs.declared.profile.Profile.TheVariants.{Ordinary, Pseudo}
use Rattle.terms.specs.Letter.{is_known}
use Rattle.arithmetic.specs.Powers.{ten_to}
use Rattle.terms.specs.Profile.{takes}
use Rattle.register.specs.declared.head.Head.{Head}
use Rattle.register.specs.Bytes.{byte_at}
use Rattle.register.specs.Entries.{entry_start, entry_at}
use Rattle.judge.specs.declared.body.Body.{Body}
use Rattle.judge.specs.declared.run.Run.{Run}
use Rattle.journal.specs.Journal.{entries_to, standing, withdrawn, slot_if, held_of, is_there, is_flagged, first_value, newest_at, day_of}
use Rattle.journal.specs.Sound.{any, is_final_read, holds, is_in_range, is_read, has_read, are_in_order}
use Rattle.journal.specs.Inner.Loops.{stands_by, follows_by}
use Rattle.judge.specs.Inner.Profile.{takes_all}
use Rattle.judge.specs.Inner.Run.{firsts, last_day, run_of, ran_to, IsRun}
use Rattle.judge.specs.Inner.Plain.{PlainBody, IsOpen, OneOn, RunsTo}
use Rattle.judge.proofs.Clashes.{stands_unwithdrawn, withdrawn_unstanding, free_standing, free_withdrawn, stays_apart}
use Rattle.journal.proofs.Bools.{false_is}
use Rattle.journal.proofs.Entries.{any_kept, one_more, those_more, length_entries, those_at_most, count_on}
use Rattle.journal.proofs.InOrder.{in_order_more, by_numbers, days_rise_lem, stands_unheld}

-- ---- a list with one entry more, if the entry is kept
length_kept : (b : Bool) (e : Entry) (es : List Entry) → length (keep_if b e es) ≡ cond b (length es + 1) (length es)
length_kept true e es = rw (add-one (length es))
length_kept false e es = refl

flagged_kept : (b : Bool) (e : Entry) (es : List Entry) → length (those is_flagged (keep_if b e es)) ≡ cond (b && is_flagged e) (length (those is_flagged es) + 1) (length (those is_flagged es))
unfolding those
flagged_kept true e es = length_kept (is_flagged e) e (those is_flagged es)
flagged_kept false e es = refl

pub there_kept : (b : Bool) (e : Entry) (ss : List Entry) → is_there (slot_at (keep_if b e ss) 0) ≡ b || is_there (slot_at ss 0)
unfolding is_there slot_at
there_kept true e ss = refl
there_kept false e ss = refl

day_kept : (b : Bool) (e : Entry) (ss : List Entry) → day_of (slot_at (keep_if b e ss) 0) ≡ cond b e.day (day_of (slot_at ss 0))
unfolding day_of slot_at
day_kept true e ss = refl
day_kept false e ss = refl

-- a list that begins with an entry has some
some : (s : Entry) (ss : List Entry) → eqb (length (s ∷ ss)) 0 ≡ false
some s ss = ne_eqb (length (s ∷ ss)) 0 (λ z. absurd (omega arith))

first_kept : (b : Bool) (e : Entry) (ss : List Entry) → first_value (keep_if b e ss) ≡ cond (b && eqb (length ss) 0) e.value (first_value ss)
unfolding first_value
first_kept true e [] = refl
first_kept true e (s ∷ ss) = rw (some s ss)
first_kept false e ss = refl

-- a read stands where their number is not 0
pub there_counted : (ss : List Entry) → is_there (slot_at ss 0) ≡ not (eqb (length ss) 0)
unfolding is_there slot_at
there_counted [] = refl
there_counted (s ∷ ss) = rw (some s ss)

pub held_there : (b : Bool) (e : Entry) → is_there (slot_if b e None) ≡ b
unfolding is_there
held_there true e = refl
held_there false e = refl

-- ---- what is kept
pub run_more : (e : Entry) (es : List Entry) → run_of (e ∷ es) ≡ record {
  first = cond (is_standing e && eqb (run_of es).standing 0) e.value (run_of es).first;
  day = cond (is_standing e) e.day (run_of es).day;
  count = (run_of es).count + 1;
  standing = cond (is_standing e) ((run_of es).standing + 1) (run_of es).standing;
  flagged = cond (is_standing e && is_flagged e) ((run_of es).flagged + 1) (run_of es).flagged;
  newest = cond (is_standing e) (run_of es).count (run_of es).newest;
}
unfolding run_of those newest_at
run_more e es = simp (length_kept, flagged_kept, first_kept, day_kept, ← add-one)

-- no count is more than that of the entries
pub run_small : (run : Run) (k : ℕ) (a : List ℕ) → run ≡ run_of (entries_to k a) → (run.count ≡ k) × (run.standing ≤ run.count) × (run.flagged ≤ run.standing)
unfolding run_of
run_small run k a is =
    let es = entries_to k a in
    rw is (length_entries k a, omega (arith, those_at_most is_standing es), omega (arith, those_at_most is_flagged (standing es)))

pub run_day : {run : Run} (es : List Entry) → run ≡ run_of es → run.day ≡ last_day es
unfolding run_of
run_day es is = ap (λ (r : Run). r.day) is

-- ---- a plain body may follow where a read stands and none is held
withdrawn_unheld : (e : Entry) → is_withdrawn e ≡ true → is_held e ≡ false
unfolding is_withdrawn is_held
withdrawn_unheld e h = rw (eqb-true e.kind kind_withdrawn h)

-- a meter that takes every type takes each that is known
pub takes_known : (p : Profile) (l : ℕ) → takes_all p ≡ true → is_known l ≡ true → takes p l ≡ true
unfolding takes_all takes
takes_known Ordinary l all known = known
takes_known Pseudo l all known = false_is all

-- an entry that may follow, of a meter that takes every type
module _ (head : Head) {limit last : ℕ} {e : Entry} (limit_is : limit ≡ ten_to head.dials) (all : takes_all head.profile ≡ true) (b : PlainBody limit last e) where
  taken : takes head.profile e.letter ≡ true
  taken = takes_known head.profile e.letter all b.letter.known

  range_is : is_in_range head e ≡ true
  unfolding is_in_range holds
  range_is =
      let d : e.day ≡ 0 → ⊥ = λ h. omega (arith, b.later) in
      rw (
        ne_eqb e.day 0 d,
        ← limit_is,
        lt-ltb e.value limit b.small,
        taken,
        b.letter.inner,
        le-leb e.indicator 2 b.indicator,
        b.flag,
      )

  follows_standing : (ended : Bool) → is_standing e ≡ true → follows_by head e true last false ended ≡ true
  unfolding follows_by stands_by is_read
  follows_standing ended s = rw (s, range_is, b.letter.inner, b.letter.unending, lt-ltb last e.day b.later)

  follows_withdrawn : (ended : Bool) → is_withdrawn e ≡ true → follows_by head e true last false ended ≡ true
  unfolding follows_by is_read
  follows_withdrawn ended w = rw (withdrawn_unstanding e w, w, withdrawn_unheld e w, range_is)

body_of : {limit : ℕ} {run : Run} {e : Entry} (es : List Entry) → PlainBody limit run.day e → run ≡ run_of es → PlainBody limit (last_day es) e
unfolding run_of
body_of es b h = rw h at b

module _ (head : Head) {limit : ℕ} (limit_is : limit ≡ ten_to head.dials) (es : List Entry) {e : Entry} where
  module _ (all : takes_all head.profile ≡ true) (b : PlainBody limit (last_day es) e) {ended clear : Bool} (op : IsOpen head ended clear es) where
    order_more : follows_by head e true (last_day es) false (any is_final_read (standing es)) ≡ true → are_in_order head (e ∷ es) ≡ true
    order_more follows = rw (in_order_more, by_numbers, op.stands, op.unheld, follows) op.ordered

    open_standing : is_standing e ≡ true → any (has_read e.day e.value) (withdrawn es) ≡ false → IsOpen head ended clear (e ∷ es)
    unfolding those held_of
    open_standing s none =
        record {
          ordered = order_more (follows_standing head limit_is all b (any is_final_read (standing es)) s);
          stands = rw (s, there_kept);
          unheld = rw (held_there, stands_unheld e s);
          ended_is = rw (s, any_kept, b.letter.unending) op.ended_is;
          apart = λ c. stays_apart e es (free_standing e es s none) (op.apart c);
        }

    open_withdrawn : is_withdrawn e ≡ true → IsOpen head ended clear (e ∷ es)
    unfolding those held_of
    open_withdrawn w =
        let s = withdrawn_unstanding e w in
        record {
          ordered = order_more (follows_withdrawn head limit_is all b (any is_final_read (standing es)) w);
          stands = rw s op.stands;
          unheld = rw (held_there, withdrawn_unheld e w);
          ended_is = rw s op.ended_is;
          apart = λ c. stays_apart e es (free_withdrawn e es w (days_rise_lem head es op.ordered) b.later) (op.apart c);
        }

  -- ---- one entry more in a run
  module _ (run : Run) {r : Run} (b : PlainBody limit run.day e) where
    pub stand_one : is_standing e ≡ true → (run.standing ≡ 0 → ⊥) → any (has_read e.day e.value) (withdrawn es) ≡ false → r ≡ record run { day = e.day; count = run.count + 1; standing = run.standing + 1; newest = run.count } → OneOn head es run e r
    unfolding is_standing is_flagged
    stand_one s some none one =
        record {
          count = rw one;
          kind = λ z. (let k : e.kind ≡ 2 = eqb-true _ _ s in omega arith);
          run_is = λ h. one ∙ rw (run_more, ← h, s, b.flag, ne_eqb run.standing 0 some);
          opened = λ ended clear all h op. open_standing all (body_of es b h) op s none;
        }

    pub withdraw_one : is_withdrawn e ≡ true → r ≡ record run { count = run.count + 1 } → OneOn head es run e r
    unfolding is_withdrawn
    withdraw_one w one =
        record {
          count = rw one;
          kind = λ z. (let k : e.kind ≡ 3 = eqb-true _ _ w in omega arith);
          run_is = λ h. one ∙ rw (run_more, ← h, withdrawn_unstanding e w);
          opened = λ ended clear all h op. open_withdrawn all (body_of es b h) op w;
        }

-- ---- runs
pub runs_none : {b : Body} {run : Run} → IsRun b run → RunsTo b run run
runs_none is = record { more = omega arith; runs = is; goes = refl; opened = λ ended clear all op. op }

pub runs_one : {b : Body} {from run r : Run} {e : Entry} → RunsTo b from run → run.count < b.most → e ≡ entry_at b.bytes.now (entry_start run.count) → OneOn b.head (firsts b run.count) run e r → RunsTo b from r
unfolding entry_at
runs_one {b} {from} {run} {r} {e} runs h read one =
    let body = b.bytes.now in
    let n = one.count in
    let on : firsts b r.count ≡ e ∷ firsts b run.count = rw (n, one_more run.count body, ← read) in
    let some : byte_at body (entry_start run.count) ≡ 0 → ⊥ = λ z. one.kind (rw read z) in
    record {
      more = omega (arith, runs.more);
      runs = record { few = omega arith; run_is = rw on (one.run_is runs.runs.run_is) };
      goes = runs.goes ∙ rw n (count_on b.most run.count body h some);
      opened = λ ended clear all op. rw on (one.opened ended clear all runs.runs.run_is (runs.opened ended clear all op));
    }

-- ---- entries that all stand
all_standing : (es : List Entry) → length (standing es) ≡ length es → (withdrawn es ≡ []) × (newest_at es ≡ length es - 1)
unfolding those newest_at
all_standing [] h = (refl, refl)
all_standing (e ∷ es) h = cases (all_standing es) (is_standing e) refl where
  cases : (length (standing es) ≡ length es → (withdrawn es ≡ []) × (newest_at es ≡ length es - 1)) → (b : Bool) → is_standing e ≡ b → (withdrawn (e ∷ es) ≡ []) × (newest_at (e ∷ es) ≡ suc (length es) - 1)
  cases rest true s =
      let less : length (standing es) ≡ length es = omega (arith, rw s at h) in
      let last : suc (length es) - 1 ≡ length es = omega arith in
      rw (s, stands_unwithdrawn e s, last) ((rest less).0, refl)
  cases rest false s = absurd (omega (arith, rw s at h, those_at_most is_standing es))

pub all_run : (from : Run) (es : List Entry) → from ≡ run_of es → from.standing ≡ from.count → (withdrawn es ≡ []) × (from.newest ≡ from.count - 1)
unfolding run_of
all_run from es is all =
    let same : length (standing es) ≡ length es = rw is at all in
    let stand = all_standing es same in
    (stand.0, rw is stand.1)

pub plain_start : (from : Run) → from.standing ≡ from.count → from.newest ≡ from.count - 1 → ran_to from from.count from.day (from.count - 1) from.count ≡ from
plain_start from all newest = rw (← newest, ← all)

pub none_withdrawn : (day value : ℕ) (es : List Entry) → withdrawn es ≡ [] → any (has_read day value) (withdrawn es) ≡ false
unfolding any
none_withdrawn day value es none = rw none

pub withdrawn_still : (k : ℕ) (a : List ℕ) {e : Entry} → e ≡ entry_at a (entry_start k) → is_withdrawn e ≡ false → withdrawn (entries_to (k + 1) a) ≡ withdrawn (entries_to k a)
withdrawn_still k a read stays = those_more k a is_withdrawn read (sym stays)
