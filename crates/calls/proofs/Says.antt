-- What the ledger of a meter says of its journal, and how it goes on saying it: with a read more, with a read less, and after a fold.
use mathlib.Core.Path.{◌≡◌, refl, sym, ap, ap₂, ◌∙◌}
use mathlib.Core.Logic.{◌⊎◌}
use mathlib.Core.Bool.{true, false, ◌&&◌, cond}
use mathlib.Core.List.{List, [], ◌∷◌, ◌++◌}
use Prim.Native.Nat.{ℕ, ◌+◌, ◌-◌, ◌≤◌, ◌<◌}
use native.Mathlib.Omega.{arith}
use borrow.Author.Tests.{lt-ltb}
use lib.IntN.{ℤ, pos, neg_ℤ, ◌+ℤ◌, ◌-ℤ◌, +ℤ-neg_ℤ_cancel, pos-+ℤ-pos}
use lib.ListN.{length, length-append}
use Rattle.arithmetic.specs.Advance.{advance_of}
use Rattle.terms.specs.declared.entry.Entry.{Entry}
use Rattle.terms.specs.Entry.{slot_at}
use Rattle.rules.specs.Volume.{advance_over}
use Rattle.register.specs.declared.head.Head.{Head}
use Rattle.journal.specs.Journal.{Journal, standing, withdrawn, first_value, oldest_of, day_of}
use Rattle.journal.specs.Sound.{any, has_read, days_rise}
use Rattle.calls.specs.Fold.{reads_kept, carry_after, head_after}
use Rattle.journal.specs.Total.{flagged_in, first_in, total_of}
use Rattle.calls.specs.Ledger.{Named, named, Ledger, are_none_of, first_value_of}
use Rattle.calls.specs.DemandThree.{names_of}
use Rattle.calls.proofs.Bools.{by_test, apart as contrary}
use Rattle.calls.proofs.Totals.{IsFlag, Bare, flagged_in_lem, first_more, first_bare, folded_bare, total_more, total_first, flagged_stay, first_stays, total_stays}
use Rattle.calls.proofs.Names.{names_rise, rise_tail, none_less, AreGone, fresh_name, gone_more, gone_later}
use Rattle.calls.proofs.Folding.{Four, third_rise}
use Rattle.calls.proofs.Folded.{days_apart}

-- the value of the first of some names, and 0 where there is none
unfoldable pub first_named : List Named → ℕ
first_named [] = 0
first_named (r ∷ rs) = first_value_of r rs

-- the day up to which withdrawn entries may be gone: that of the oldest kept read
unfoldable pub gone_to : Head → List Entry → ℕ
gone_to head ss = cond head.carried (day_of (oldest_of ss)) 0

-- the ledger says what a head, its standing and its withdrawn reads say
pub record Says (head : Head) (ss ws : List Entry) (l : Ledger) : Type 0 where
  pub dials_are : head.dials ≡ l.dials
  -- the reads that were folded, and those that stand after them
  pub older : List Named
  pub standing_is : names_of ss ++ older ≡ l.standing
  pub older_are : length older ≡ head.carry.folded
  pub folded_is : head.carry.folded ≡ l.folded
  pub first_is : first_named l.standing ≡ first_in head ss
  pub advances_are : l.advances ≡ total_of head ss
  pub flags_are : l.flags ≡ pos (flagged_in head ss)
  -- the names' days rise, none of them was withdrawn, and what was is an entry or gone
  pub rise : names_rise l.standing ≡ true
  pub apart : are_none_of l.standing l.withdrawn ≡ true
  pub withdrawn_are : AreGone l.withdrawn ws (gone_to head ss)
  -- without a carry nothing was folded; and with one a read stands
  pub bare : head.carried ≡ false → Bare head
  pub stands : ss ≡ [] → head.carried ≡ false

-- ---- the totals of one read more and of one less
advance_first : (n value flag : ℕ) → advance_over n value flag (slot_at [] 0) ≡ pos 0
unfolding advance_over slot_at
advance_first n value flag = refl

advance_next : (n value flag : ℕ) (s : Entry) (ss : List Entry) → advance_over n value flag (slot_at (s ∷ ss) 0) ≡ advance_of n value flag s.value
unfolding advance_over slot_at
advance_next n value flag s ss = refl

pub total_none : (head : Head) → total_of head [] ≡ pos 0
unfolding total_of
total_none head = refl

-- a read after those standing adds its advance
pub total_after : (head : Head) (e : Entry) (ss : List Entry) → IsFlag e.flag → (ss ≡ [] → Bare head × (e.flag ≡ 0)) → total_of head (e ∷ ss) ≡ total_of head ss +ℤ advance_over head.dials e.value e.flag (slot_at ss 0)
total_after head e [] flag first = total_first head e (first refl).0 (first refl).1 ∙ sym (ap₂ ◌+ℤ◌ (total_none head) (advance_first head.dials e.value e.flag))
total_after head e (s ∷ ss) flag first = total_more head e s ss flag ∙ ap (λ (z : ℤ). total_of head (s ∷ ss) +ℤ z) (sym (advance_next head.dials e.value e.flag s ss))

-- ---- names
names_more : (e : Entry) (ss : List Entry) → names_of (e ∷ ss) ≡ named e.day e.value ∷ names_of ss
unfolding names_of
names_more e ss = refl

-- none are older where nothing was folded
pub none_older : (rs : List Named) → length rs ≡ 0 → rs ≡ []
none_older [] h = refl
none_older (r ∷ rs) h = absurd (let f : ⊥ = omega arith in f)

first_one : (e : Entry) → first_value (e ∷ []) ≡ e.value
unfolding first_value
first_one e = refl

first_none : first_value [] ≡ 0
unfolding first_value
first_none = refl

no_oldest : day_of (oldest_of []) ≡ 0
unfolding oldest_of day_of
no_oldest = refl

-- what a head, its reads and a ledger say of one read more, and of one less
module _ (head : Head) (e : Entry) (older : List Named) where
  abbrev names : List Entry → List Named
  names ss = names_of ss ++ older

  module _ (bare : Bare head) (older_are : length older ≡ head.carry.folded) where
    only : names [] ≡ []
    unfolding names_of
    only = none_older older (older_are ∙ folded_bare head bare)

  -- the first value is as it was
  first_with : (ss : List Entry) → (ss ≡ [] → Bare head) → length older ≡ head.carry.folded → first_named (names ss) ≡ first_in head ss → first_named (names (e ∷ ss)) ≡ first_in head (e ∷ ss)
  unfolding names_of first_named first_value_of
  first_with [] bare are h = ap (λ (rs : List Named). first_value_of (named e.day e.value) rs) (only (bare refl) are) ∙ sym (first_bare head (e ∷ []) (bare refl) ∙ first_one e)
  first_with (s ∷ ss) bare are h = h ∙ sym (first_more head e s ss)

  first_without : (ss : List Entry) → (ss ≡ [] → Bare head) → length older ≡ head.carry.folded → first_named (names (e ∷ ss)) ≡ first_in head (e ∷ ss) → first_named (names ss) ≡ first_in head ss
  unfolding names_of first_named first_value_of
  first_without [] bare are h = ap first_named (only (bare refl) are) ∙ sym (first_bare head [] (bare refl) ∙ first_none)
  first_without (s ∷ ss) bare are h = h ∙ first_more head e s ss

  -- and so is the day up to which entries may be gone
  gone_with : (ss : List Entry) → (ss ≡ [] → Bare head) → gone_to head (e ∷ ss) ≡ gone_to head ss
  unfolding gone_to oldest_of
  gone_with [] bare = rw (bare refl).uncarried
  gone_with (s ∷ ss) bare = refl

-- ---- one accepted call: what is said of the journal before it and of the ledger is said of both after it
module _ (head : Head) (ss ws : List Entry) (l : Ledger) (g : Says head ss ws l) where
  -- a read more
  module _ (e : Entry) (flag : IsFlag e.flag) (first_flag : ss ≡ [] → e.flag ≡ 0) where
    bare_first : ss ≡ [] → Bare head
    bare_first none = g.bare (g.stands none)

    more : total_of head (e ∷ ss) ≡ total_of head ss +ℤ advance_over head.dials e.value e.flag (slot_at ss 0)
    more = total_after head e ss flag (λ none. (bare_first none, first_flag none))

    -- its day is later than those of all others
    rises : 0 < e.day → ((r : Entry) (rs : List Entry) → ss ≡ r ∷ rs → r.day < e.day) → (rs : List Entry) → ss ≡ rs → names_rise (names_of (e ∷ rs) ++ g.older) ≡ true
    unfolding names_of names_rise
    rises dated later [] none = rw (only head e g.older (bare_first none) g.older_are)
    rises dated later (r ∷ rs) are =
        ap₂ ◌&&◌ (lt-ltb r.day e.day (later r rs are)) (rw are at (ap names_rise g.standing_is ∙ g.rise))

    after_gone : 0 < e.day → ((r : Entry) (rs : List Entry) → ss ≡ r ∷ rs → r.day < e.day) → days_rise ss ≡ true → gone_to head ss < e.day
    unfolding gone_to
    after_gone dated later rise = by_test head.carried (λ t. rw t (oldest_before ss refl)) (λ t. rw t dated)
      where
        oldest_before : (rs : List Entry) → ss ≡ rs → day_of (oldest_of rs) < e.day
        oldest_before [] none = rw no_oldest dated
        oldest_before (r ∷ rs) are = omega (arith, later r rs are, days_apart r rs (rw are at rise))

    pub says_more : (answered : ℤ) → answered ≡ advance_over head.dials e.value e.flag (slot_at ss 0) → 0 < e.day
        → ((r : Entry) (rs : List Entry) → ss ≡ r ∷ rs → r.day < e.day)
        → any (has_read e.day e.value) ws ≡ false → days_rise ss ≡ true
        → Says head (e ∷ ss) ws (record { standing = named e.day e.value ∷ l.standing; advances = l.advances +ℤ answered; flags = l.flags +ℤ pos e.flag; dials = l.dials; withdrawn = l.withdrawn; folded = l.folded })
    unfolding are_none_of
    says_more answered is dated later fresh rise =
        let here = named e.day e.value in
        let standing_is : names_of (e ∷ ss) ++ g.older ≡ here ∷ l.standing = ap (λ (rs : List Named). rs ++ g.older) (names_more e ss) ∙ ap (λ (rs : List Named). here ∷ rs) g.standing_is in
        record {
          dials_are = g.dials_are;
          older = g.older;
          standing_is = standing_is;
          older_are = g.older_are;
          folded_is = g.folded_is;
          first_is = ap first_named (sym standing_is) ∙ first_with head e g.older ss bare_first g.older_are (ap first_named g.standing_is ∙ g.first_is);
          advances_are = ap₂ ◌+ℤ◌ g.advances_are is ∙ sym more;
          flags_are = ap (λ (z : ℤ). z +ℤ pos e.flag) g.flags_are ∙ pos-+ℤ-pos (flagged_in head ss) e.flag ∙ ap pos (sym (flagged_in_lem head e ss flag));
          rise = ap names_rise (sym standing_is) ∙ rises dated later ss refl;
          apart = ap₂ ◌&&◌ (fresh_name e.day e.value (gone_to head ss) l.withdrawn ws g.withdrawn_are fresh (after_gone dated later rise)) g.apart;
          withdrawn_are = rw (gone_with head e g.older ss bare_first) g.withdrawn_are;
          bare = g.bare;
          stands = λ none. absurd (some_not_none none);
        }
      where
        some_not_none : e ∷ ss ≡ [] → ⊥
        some_not_none q = let n : length (e ∷ ss) ≡ 0 = ap length q in omega arith

-- ---- a read less: the last
module _ (head : Head) (e : Entry) (ss ws ws' : List Entry) (l : Ledger) (g : Says head (e ∷ ss) ws l) (flag : IsFlag e.flag) (stands : ss ≡ [] → head.carried ≡ false) (first_flag : ss ≡ [] → e.flag ≡ 0) where
  bare_left : ss ≡ [] → Bare head
  bare_left none = g.bare (stands none)

  pub standing_was : named e.day e.value ∷ (names_of ss ++ g.older) ≡ l.standing
  standing_was = ap (λ (rs : List Named). rs ++ g.older) (sym (names_more e ss)) ∙ g.standing_is

  less : total_of head (e ∷ ss) ≡ total_of head ss +ℤ advance_over head.dials e.value e.flag (slot_at ss 0)
  less = total_after head e ss flag (λ none. (bare_left none, first_flag none))

  pub says_less : (answered : ℤ) → answered ≡ advance_over head.dials e.value e.flag (slot_at ss 0)
      → ((d v : ℕ) → any (has_read d v) ws ≡ true → any (has_read d v) ws' ≡ true)
      → any (has_read e.day e.value) ws' ≡ true
      → Says head ss ws' (record { standing = names_of ss ++ g.older; advances = l.advances +ℤ neg_ℤ answered; flags = l.flags -ℤ pos e.flag; dials = l.dials; withdrawn = named e.day e.value ∷ l.withdrawn; folded = l.folded })
  says_less answered is keeps has =
      let here = named e.day e.value in
      let rest = names_of ss ++ g.older in
      let total : total_of head (e ∷ ss) ≡ total_of head ss +ℤ answered = less ∙ ap (λ (z : ℤ). total_of head ss +ℤ z) (sym is) in
      let flagged : pos (flagged_in head (e ∷ ss)) ≡ pos (flagged_in head ss) +ℤ pos e.flag = ap pos (flagged_in_lem head e ss flag) ∙ sym (pos-+ℤ-pos (flagged_in head ss) e.flag) in
      let rose : names_rise (here ∷ rest) ≡ true = ap names_rise standing_was ∙ g.rise in
      let was_apart : are_none_of (here ∷ rest) l.withdrawn ≡ true = ap (λ (rs : List Named). are_none_of rs l.withdrawn) standing_was ∙ g.apart in
      record {
        dials_are = g.dials_are;
        older = g.older;
        standing_is = refl;
        older_are = g.older_are;
        folded_is = g.folded_is;
        first_is = first_without head e g.older ss bare_left g.older_are (ap first_named g.standing_is ∙ g.first_is);
        advances_are = ap (λ (z : ℤ). z +ℤ neg_ℤ answered) (g.advances_are ∙ total) ∙ +ℤ-neg_ℤ_cancel (total_of head ss) answered;
        flags_are = ap (λ (z : ℤ). z -ℤ pos e.flag) (g.flags_are ∙ flagged) ∙ +ℤ-neg_ℤ_cancel (pos (flagged_in head ss)) (pos e.flag);
        rise = rise_tail here rest rose;
        apart = none_less here rest l.withdrawn rose was_apart;
        withdrawn_are = gone_more e.day e.value (gone_to head ss) l.withdrawn ws ws' (rw (gone_with head e g.older ss bare_left) at g.withdrawn_are) keeps has;
        bare = g.bare;
        stands = stands;
      }

-- ---- a fold: the reads before the last three join those that were folded
module _ (j : Journal) (ws' : List Entry) (l : Ledger) (f : Four (standing j.entries)) (g : Says j.head (standing j.entries) (withdrawn j.entries) l) where
  abbrev three : List Entry
  three = f.newest ∷ f.second ∷ f.third ∷ []

  abbrev four_on : List Entry
  four_on = f.fourth ∷ f.older

  abbrev all : List Entry
  all = standing j.entries

  standing_still : names_of three ++ (names_of four_on ++ g.older) ≡ l.standing
  unfolding names_of
  standing_still = ap (λ (ss : List Entry). names_of ss ++ g.older) (sym f.are) ∙ g.standing_is

  names_length : (ss : List Entry) → length (names_of ss) ≡ length ss
  unfolding names_of
  names_length [] = refl
  names_length (s ∷ ss) = omega (arith, names_length ss)

  folded_now : (head_after j).carry.folded ≡ j.head.carry.folded + length four_on
  unfolding head_after carry_after
  folded_now = rw f.are (omega arith)

  older_now : length (names_of four_on ++ g.older) ≡ (head_after j).carry.folded
  older_now = simp length-append (omega (arith, names_length four_on, g.older_are, folded_now))

  ledger_now : (head_after j).carry.folded ≡ length l.standing - reads_kept
  ledger_now =
      let n : length l.standing ≡ length (names_of three) + length (names_of four_on ++ g.older) = ap length (sym standing_still) ∙ length-append (names_of three) (names_of four_on ++ g.older) in
      omega (arith, n, older_now, names_length three)

  gone_on : days_rise all ≡ true → gone_to j.head all ≤ f.third.day
  unfolding gone_to oldest_of
  gone_on rise =
      let r : days_rise (f.third ∷ four_on) ≡ true = third_rise f.newest f.second f.third four_on (rw f.are at rise) in
      by_test j.head.carried
      (λ t. rw (t, f.are) (omega (arith, days_apart f.third four_on r)))
      (λ t. rw t (omega arith))

  dials_now : (head_after j).dials ≡ j.head.dials
  unfolding head_after
  dials_now = refl

  carried_now : (head_after j).carried ≡ true
  unfolding head_after
  carried_now = refl

  pub says_folded : days_rise all ≡ true
      → ((d v : ℕ) → any (has_read d v) (withdrawn j.entries) ≡ true → (any (has_read d v) ws' ≡ true) ⊎ (d ≤ f.third.day))
      → Says (head_after j) three ws' (record { standing = l.standing; advances = l.advances; flags = l.flags; dials = l.dials; withdrawn = l.withdrawn; folded = length l.standing - reads_kept })
  unfolding gone_to oldest_of day_of
  says_folded rise goes =
      record {
        dials_are = dials_now ∙ g.dials_are;
        older = names_of four_on ++ g.older;
        standing_is = standing_still;
        older_are = older_now;
        folded_is = ledger_now;
        first_is = g.first_is ∙ sym (first_stays j f.newest f.second f.third four_on f.are three);
        advances_are = g.advances_are ∙ sym (total_stays j f.newest f.second f.third four_on f.are);
        flags_are = g.flags_are ∙ ap pos (sym (flagged_stay j f.newest f.second f.third four_on f.are));
        rise = g.rise;
        apart = g.apart;
        withdrawn_are = rw carried_now (gone_later (gone_to j.head all) f.third.day l.withdrawn (withdrawn j.entries) ws' g.withdrawn_are (gone_on rise) goes);
        bare = λ t. absurd (contrary carried_now t);
        stands = λ none. absurd (some_not_none none);
      }
    where
      some_not_none : three ≡ [] → ⊥
      some_not_none q = let n : length three ≡ 0 = ap length q in omega arith
