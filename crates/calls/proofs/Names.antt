-- Reads by day and value: taking one out, and why no withdrawn one stands again.
use mathlib.Core.Path.{◌≡◌, refl, sym, ap₂}
use mathlib.Core.Logic.{◌⊎◌, inl, inr, ⊎_elim}
use mathlib.Core.Bool.{Bool, true, false, not, ◌&&◌}
use mathlib.Core.List.{List, [], ◌∷◌}
use Prim.Native.Nat.{ℕ, ◌≤◌, ◌<◌}
use native.Mathlib.Omega.{arith}
use borrow.Author.Tests.{eqb-true, eq-eqb, ne_eqb, ltb-true, lt-ltb}
use lib.Dec.{eqb, ltb}
use Rattle.terms.specs.declared.entry.Entry.{Entry}
use Rattle.journal.specs.Sound.{any, has_read}
use Rattle.calls.proofs.Bools.{both, either_of, apart}
use Rattle.calls.specs.Ledger.{Named, named, is_same_read, take_out, is_among, are_none_of}

-- ---- the same read
module _ (day value : ℕ) (e : Entry) where
  pub read_is : has_read day value e ≡ true → (e.day ≡ day) × (e.value ≡ value)
  unfolding has_read
  read_is h = let b = both (eqb e.day day) (eqb e.value value) h in (eqb-true _ _ b.0, eqb-true _ _ b.1)

  pub is_read_lem : e.day ≡ day → e.value ≡ value → has_read day value e ≡ true
  unfolding has_read
  is_read_lem d v = ap₂ ◌&&◌ (eq-eqb _ _ d) (eq-eqb _ _ v)

pub same_is : (a b : Named) → is_same_read a b ≡ true → (a.day ≡ b.day) × (a.value ≡ b.value)
unfolding is_same_read
same_is a b h = let p = both (eqb a.day b.day) (eqb a.value b.value) h in (eqb-true _ _ p.0, eqb-true _ _ p.1)

-- the newest read, named, is the one that is taken out
pub take_newest : (day value : ℕ) (e : Entry) (rs : List Named) → has_read day value e ≡ true → take_out (named day value) (named e.day e.value ∷ rs) ≡ rs
unfolding take_out is_same_read
take_newest day value e rs h =
    let r = read_is day value e h in
    rw (eq-eqb day e.day (sym r.0), eq-eqb value e.value (sym r.1))

-- ---- names whose days rise, as those of the standing reads and of the folded ones before them do
unfoldable pub names_rise : List Named → Bool
names_rise [] = true
names_rise (r ∷ []) = true
names_rise (r ∷ s ∷ rs) = ltb s.day r.day && names_rise (s ∷ rs)

pub rise_tail : (r : Named) (rs : List Named) → names_rise (r ∷ rs) ≡ true → names_rise rs ≡ true
unfolding names_rise
rise_tail r [] h = refl
rise_tail r (s ∷ rs) h = (both (ltb s.day r.day) (names_rise (s ∷ rs)) h).1

-- all of them are before a day
is_earlier : ℕ → List Named → Bool
is_earlier day [] = true
is_earlier day (r ∷ rs) = ltb r.day day && is_earlier day rs

earlier_all : (r : Named) (rs : List Named) (day : ℕ) → names_rise (r ∷ rs) ≡ true → r.day ≤ day → is_earlier day rs ≡ true
unfolding names_rise is_earlier
earlier_all r [] day h l = refl
earlier_all r (s ∷ rs) day h l =
    let h' = both (ltb s.day r.day) (names_rise (s ∷ rs)) h in
    let g : s.day < r.day = ltb-true _ _ h'.0 in
    ap₂ ◌&&◌ (lt-ltb s.day day (omega arith)) (earlier_all s rs day h'.1 (omega arith))

-- ---- none of the reads is a withdrawn one: with one read less, which is withdrawn then
not_among : (r x : Named) (ws : List Named) → ltb x.day r.day ≡ true → not (is_among x ws) ≡ true → not (is_among x (r ∷ ws)) ≡ true
unfolding is_among is_same_read
not_among r x ws l h =
    let g : x.day < r.day = ltb-true _ _ l in
    rw (ne_eqb x.day r.day (omega arith)) h

none_with : (r : Named) (rs ws : List Named) → is_earlier r.day rs ≡ true → are_none_of rs ws ≡ true → are_none_of rs (r ∷ ws) ≡ true
unfolding are_none_of is_earlier
none_with r [] ws e h = refl
none_with r (x ∷ rs) ws e h =
    let e' = both (ltb x.day r.day) (is_earlier r.day rs) e in
    let h' = both (not (is_among x ws)) (are_none_of rs ws) h in
    ap₂ ◌&&◌ (not_among r x ws e'.0 h'.0) (none_with r rs ws e'.1 h'.1)

pub none_less : (r : Named) (rs ws : List Named) → names_rise (r ∷ rs) ≡ true → are_none_of (r ∷ rs) ws ≡ true → are_none_of rs (r ∷ ws) ≡ true
unfolding are_none_of
none_less r rs ws rise h = none_with r rs ws (earlier_all r rs r.day rise (omega arith)) (both (not (is_among r ws)) (are_none_of rs ws) h).1

-- ---- every name of a list is that of a withdrawn entry, or is no later than a day up to which entries may be gone
abbrev pub AreGone : List Named → List Entry → ℕ → Type 0
AreGone names ws gone = (day value : ℕ) → is_among (named day value) names ≡ true → (any (has_read day value) ws ≡ true) ⊎ (day ≤ gone)

-- so a read that is later, and has not the day and value of a withdrawn entry, is none of them
pub fresh_name : (day value gone : ℕ) (names : List Named) (ws : List Entry) → AreGone names ws gone → any (has_read day value) ws ≡ false → gone < day → not (is_among (named day value) names) ≡ true
fresh_name day value gone names ws are fresh later = absent (is_among (named day value) names) refl
  where
    absent : (b : Bool) → is_among (named day value) names ≡ b → not b ≡ true
    absent false t = refl
    absent true t = ⊎_elim (λ w. absurd (apart w fresh)) (λ l. absurd (let f : ⊥ = omega arith in f)) (are day value t)

-- one name more, and the withdrawn entries that hold it
pub gone_more : (day value gone : ℕ) (names : List Named) (ws ws' : List Entry)
    → AreGone names ws gone
    → ((d v : ℕ) → any (has_read d v) ws ≡ true → any (has_read d v) ws' ≡ true)
    → any (has_read day value) ws' ≡ true
    → AreGone (named day value ∷ names) ws' gone
unfolding is_among
gone_more day value gone names ws ws' are keeps has d v t =
    either_of (is_same_read (named d v) (named day value)) (is_among (named d v) names) t
    (λ here. let s = same_is (named d v) (named day value) here in inl (rw (s.0, s.1) has))
    (λ there. ⊎_elim (λ w. inl (keeps d v w)) (λ l. inr l) (are d v there))

-- entries that go, up to a later day
pub gone_later : (gone gone' : ℕ) (names : List Named) (ws ws' : List Entry)
    → AreGone names ws gone
    → gone ≤ gone'
    → ((d v : ℕ) → any (has_read d v) ws ≡ true → (any (has_read d v) ws' ≡ true) ⊎ (d ≤ gone'))
    → AreGone names ws' gone'
gone_later gone gone' names ws ws' are l goes d v t =
    ⊎_elim (λ w. goes d v w) (λ g. inr (let h : d ≤ gone' = omega arith in h)) (are d v t)
