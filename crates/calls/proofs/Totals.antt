-- What one read more or less does to a meter's total.
use mathlib.Core.Path.{◌≡◌, refl, sym, ap, ap₂, ◌∙◌}
use mathlib.Core.Logic.{◌⊎◌, inl, ⊎_elim}
use mathlib.Core.Bool.{Bool, true, false, cond}
use mathlib.Core.List.{List, [], ◌∷◌}
use Prim.Native.Nat.{ℕ, ◌+◌, ◌*◌, ◌^◌, ◌<◌}
use native.Mathlib.Nat.{add_assoc, zero-add, add-mul, zero-mul, mul_comm}
use native.Mathlib.Omega.{arith}
use borrow.Author.Tests.{eqb-true, eqb-false}
use lib.Dec.{eqb}
use lib.IntN.{ℤ, pos, neg_ℤ, ◌+ℤ◌, ◌-ℤ◌, ◌*ℤ◌, +ℤ_assoc, +ℤ_comm, +ℤ_idl, +ℤ_invr, pos-+ℤ-pos}
use lib.ListN.{length}
use Rattle.arithmetic.specs.Powers.{ten_to}
use Rattle.arithmetic.specs.Advance.{advance_of}
use Rattle.arithmetic.proofs.Laws.{in_table}
use Rattle.terms.specs.declared.entry.Entry.{Entry}
use Rattle.terms.specs.Entry.{keep_if, those}
use Rattle.journal.specs.Journal.{Journal, standing, is_flagged, first_value}
use Rattle.register.specs.declared.head.Head.{Head}
use Rattle.register.specs.Head.{no_carry}
use Rattle.calls.specs.Fold.{carry_after, head_after}
use Rattle.journal.specs.Total.{flagged_of, standing_in, flagged_in, first_in, total_of}
use Rattle.calls.specs.Ledger.{Named, named, first_value_of, last_less_first}

-- a flag is 0 or 1
abbrev pub IsFlag : ℕ → Type 0
IsFlag f = (f ≡ 0) ⊎ (f ≡ 1)

-- ---- signed sums
-- what is taken off and put back goes
across : (s x y : ℤ) → (s +ℤ x) +ℤ (y +ℤ neg_ℤ s) ≡ x +ℤ y
across s x y =
    ap₂ ◌+ℤ◌ (+ℤ_comm s x) (+ℤ_comm y (neg_ℤ s))
    ∙ +ℤ_assoc x s (neg_ℤ s +ℤ y)
    ∙ ap (λ (z : ℤ). x +ℤ z) (sym (+ℤ_assoc s (neg_ℤ s) y) ∙ ap (λ (z : ℤ). z +ℤ y) (+ℤ_invr s) ∙ +ℤ_idl y)

-- (s − f + a) + (e − s + b) = e − f + (a + b)
pub joined : (e s f a b : ℤ) → (s -ℤ f +ℤ a) +ℤ (e -ℤ s +ℤ b) ≡ e -ℤ f +ℤ (a +ℤ b)
joined e s f a b =
    ap₂ ◌+ℤ◌ (+ℤ_assoc s (neg_ℤ f) a) (+ℤ_assoc e (neg_ℤ s) b ∙ ap (λ (z : ℤ). e +ℤ z) (+ℤ_comm (neg_ℤ s) b) ∙ sym (+ℤ_assoc e b (neg_ℤ s)))
    ∙ across s (neg_ℤ f +ℤ a) (e +ℤ b)
    ∙ +ℤ_assoc (neg_ℤ f) a (e +ℤ b)
    ∙ ap (λ (z : ℤ). neg_ℤ f +ℤ z) (sym (+ℤ_assoc a e b) ∙ ap (λ (z : ℤ). z +ℤ b) (+ℤ_comm a e) ∙ +ℤ_assoc e a b)
    ∙ sym (+ℤ_assoc (neg_ℤ f) e (a +ℤ b))
    ∙ ap (λ (z : ℤ). z +ℤ (a +ℤ b)) (+ℤ_comm (neg_ℤ f) e)

-- ---- the flagged reads
flagged_if : (b : Bool) (e : Entry) (ss : List Entry) (f : ℕ) → eqb f 1 ≡ b → IsFlag f → length (keep_if b e ss) ≡ length ss + f
flagged_if true e ss f h flag = let one : f ≡ 1 = eqb-true f 1 h in omega arith
flagged_if false e ss f h flag = ⊎_elim (λ zero. omega arith) (λ one. absurd (eqb-false f 1 h one)) flag

pub flagged_more : (e : Entry) (ss : List Entry) → IsFlag e.flag → flagged_of (e ∷ ss) ≡ flagged_of ss + e.flag
unfolding flagged_of those is_flagged
flagged_more e ss flag = flagged_if (eqb e.flag 1) e (those is_flagged ss) e.flag refl flag

-- ---- the total
abbrev turned : ℕ → ℤ → ℕ → ℤ
turned n apart flags = apart +ℤ pos (flags * ten_to n)

pub flagged_in_lem : (head : Head) (e : Entry) (ss : List Entry) → IsFlag e.flag → flagged_in head (e ∷ ss) ≡ flagged_in head ss + e.flag
unfolding flagged_in
flagged_in_lem head e ss flag = rw (flagged_more e ss flag) (sym (add_assoc head.carry.flagged (flagged_of ss) e.flag))

-- the first value stays with a read more
pub first_more : (head : Head) (e s : Entry) (ss : List Entry) → first_in head (e ∷ s ∷ ss) ≡ first_in head (s ∷ ss)
unfolding first_in first_value
first_more head e s ss = refl

pub total_more : (head : Head) (e s : Entry) (ss : List Entry) → IsFlag e.flag → total_of head (e ∷ s ∷ ss) ≡ total_of head (s ∷ ss) +ℤ advance_of head.dials e.value e.flag s.value
unfolding total_of advance_of
total_more head e s ss flag =
    let n = head.dials in
    let F : ℕ = flagged_in head (s ∷ ss) in
    let first : ℤ = pos (first_in head (s ∷ ss)) in
    ap₂ (λ (v k : ℕ). turned n (pos e.value -ℤ pos v) k) (first_more head e s ss) (flagged_in_lem head e (s ∷ ss) flag)
    ∙ ap (λ (z : ℤ). pos e.value -ℤ first +ℤ z) (ap pos (add-mul F e.flag (ten_to n)) ∙ sym (pos-+ℤ-pos (F * ten_to n) (e.flag * ten_to n)))
    ∙ sym (joined (pos e.value) (pos s.value) first (pos (F * ten_to n)) (pos (e.flag * ten_to n)))

pub flagged_none : flagged_of [] ≡ 0
unfolding flagged_of those
flagged_none = refl

-- ---- a head without a carry
pub record Bare (head : Head) : Type 0 where
  pub uncarried : head.carried ≡ false
  pub none : head.carry ≡ no_carry

pub first_bare : (head : Head) (ss : List Entry) → Bare head → first_in head ss ≡ first_value ss
unfolding first_in
first_bare head ss b = rw b.uncarried

pub flagged_bare : (head : Head) (ss : List Entry) → Bare head → flagged_in head ss ≡ flagged_of ss
unfolding flagged_in no_carry
flagged_bare head ss b = rw b.none (zero-add (flagged_of ss))

pub folded_bare : (head : Head) → Bare head → head.carry.folded ≡ 0
unfolding no_carry
folded_bare head b = rw b.none

-- the only read of a meter that has none: it advances by nothing
pub total_first : (head : Head) (e : Entry) → Bare head → e.flag ≡ 0 → total_of head (e ∷ []) ≡ pos 0
unfolding total_of first_value advance_of
total_first head e bare h =
    let none : flagged_in head (e ∷ []) ≡ 0 = flagged_bare head (e ∷ []) bare ∙ flagged_more e [] (inl h) ∙ omega (arith, flagged_none) in
    ap₂ (λ (v k : ℕ). turned head.dials (pos e.value -ℤ pos v) k) (first_bare head (e ∷ []) bare) none
    ∙ ap₂ ◌+ℤ◌ (+ℤ_invr (pos e.value)) (ap pos (zero-mul (ten_to head.dials)))

-- ---- the total is the paper's sum, over the names of the standing reads and of those that were folded
pub total_sum : (head : Head) → head.dials < 10 → (s : Entry) (ss : List Entry) (rest : List Named) → first_value_of (named s.day s.value) rest ≡ first_in head (s ∷ ss) → total_of head (s ∷ ss) ≡ last_less_first (named s.day s.value ∷ rest) +ℤ pos (10 ^ head.dials) *ℤ pos (flagged_in head (s ∷ ss))
unfolding total_of last_less_first advance_of
total_sum head h s ss rest first =
    ap₂ ◌+ℤ◌
    (ap (λ (k : ℕ). pos s.value -ℤ pos k) (sym first))
    (ap pos (ap (λ (k : ℕ). flagged_in head (s ∷ ss) * k) (in_table h) ∙ mul_comm (flagged_in head (s ∷ ss)) (10 ^ head.dials)))

-- ---- a fold loses no total
keep_length : (t : Bool) (e : Entry) (es : List Entry) → length (keep_if t e es) ≡ cond t 1 0 + length es
keep_length true e es = omega arith
keep_length false e es = omega arith

module _ (j : Journal) (a b c : Entry) (rest : List Entry) (st : standing j.entries ≡ a ∷ b ∷ c ∷ rest) where
  abbrev ss : List Entry
  ss = standing j.entries

  abbrev three : List Entry
  three = a ∷ b ∷ c ∷ []

  flagged_parts : flagged_of (a ∷ b ∷ c ∷ rest) ≡ flagged_of rest + flagged_of three
  unfolding flagged_of those
  flagged_parts =
      keep_length (is_flagged a) a (keep_if (is_flagged b) b (keep_if (is_flagged c) c (those is_flagged rest)))
      ∙ omega (
        arith,
        keep_length (is_flagged b) b (keep_if (is_flagged c) c (those is_flagged rest)),
        keep_length (is_flagged c) c (those is_flagged rest),
        keep_length (is_flagged a) a (keep_if (is_flagged b) b (keep_if (is_flagged c) c [])),
        keep_length (is_flagged b) b (keep_if (is_flagged c) c []),
        keep_length (is_flagged c) c [],
      )

  pub flagged_stay : flagged_in (head_after j) three ≡ flagged_in j.head ss
  unfolding flagged_in head_after carry_after
  flagged_stay = rw st (omega (arith, flagged_parts))

  pub standing_stay : standing_in (head_after j) three ≡ standing_in j.head ss
  unfolding standing_in head_after carry_after
  standing_stay = rw st (omega arith)

  pub first_stays : (more : List Entry) → first_in (head_after j) more ≡ first_in j.head ss
  unfolding first_in head_after carry_after
  first_stays more = refl

  pub total_stays : total_of (head_after j) three ≡ total_of j.head ss
  unfolding total_of head_after
  total_stays =
      ap₂ (λ (v k : ℕ). advance_of j.head.dials a.value k v) (first_stays three) flagged_stay
      ∙ rw st
