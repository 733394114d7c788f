-- What an area holds after its head is written: the head, and what comes after it as it was.
use mathlib.Core.Path.{◌≡◌, refl, sym, ap, ◌∙◌}
use mathlib.Core.Bool.{Bool, true, false, cond}
use mathlib.Core.List.{List}
use Prim.Native.Nat.{ℕ, ◌+◌, ◌≤◌, ◌<◌}
use native.Mathlib.Omega.{arith}
use borrow.Author.Tests.{eq-eqb}
use lib.Dec.{eqb}
use lib.ListN.{length, set, take, drop, length-set}
use lib.Seq.{get_or-set_same, get_or-set_other, take-set-le, drop-set-lt}
use Rattle.terms.specs.Entry.{kind_carry}
use Rattle.terms.specs.Profile.{meter_kind, profile_of}
use Rattle.terms.proofs.Profiles.{same_profile}
use Rattle.register.specs.Bytes.{byte_at, long_at, put_word, put_long}
use Rattle.register.specs.declared.head.Carry.{Carry}
use Rattle.register.specs.declared.head.Head.{Head}
use Rattle.register.specs.Head.{meter_bytes, carry_bytes, is_carry_at, carry_at, no_carry, head_of, put_meter, put_carry, put_head, head_bytes}
use Rattle.register.proofs.Back.{same_byte, same_word, same_long, word_length, word_below, word_above, word_same, long_length, long_below, long_above, long_same, past_byte}

-- ---- the meter's entry written
module _ (a : List ℕ) (head : Head) where
  meter_length : length (put_meter a head) ≡ length a
  unfolding put_meter
  meter_length = simp (long_length, length-set)

  meter_above : (n : ℕ) → meter_bytes ≤ n → drop n (put_meter a head) ≡ drop n a
  unfolding put_meter
  meter_above n l =
      let l₀ : 0 < n = omega arith in
      let l₁ : 1 < n = omega arith in
      let l₂ : 2 + 4 ≤ n = omega arith in
      simp (drop-set-lt, long_above)

  module _ (room : meter_bytes ≤ length a) where
    abbrev front : List ℕ
    front = set (set a 0 (meter_kind head.profile)) 1 head.dials

    below : take 2 (put_meter a head) ≡ take 2 front
    unfolding put_meter
    below = long_below front 2 head.capacity 2 (omega arith)

    meter_kind_lem : byte_at (put_meter a head) 0 ≡ meter_kind head.profile
    meter_kind_lem =
        same_byte (put_meter a head) front 2 below 0 (omega arith)
        ∙ get_or-set_other (set a 0 (meter_kind head.profile)) 1 0 head.dials 0 (omega arith)
        ∙ get_or-set_same a 0 (meter_kind head.profile) 0 (omega arith)

    meter_dials : byte_at (put_meter a head) 1 ≡ head.dials
    meter_dials =
        same_byte (put_meter a head) front 2 below 1 (omega arith)
        ∙ get_or-set_same (set a 0 (meter_kind head.profile)) 1 head.dials 0 (simp length-set (omega arith))

    meter_capacity : long_at (put_meter a head) 2 ≡ head.capacity
    unfolding put_meter
    meter_capacity = long_same front 2 head.capacity (simp length-set (omega arith))

-- ---- a carry written
module _ (a : List ℕ) (i : ℕ) (c : Carry) where
  carry_length : length (put_carry a i c) ≡ length a
  unfolding put_carry
  carry_length = simp (word_length, long_length, length-set)

  carry_below : (n : ℕ) → n ≤ i → take n (put_carry a i c) ≡ take n a
  unfolding put_carry
  carry_below n l =
      let l₁ : n ≤ i + 1 = omega arith in
      let l₅ : n ≤ i + 5 = omega arith in
      let l₇ : n ≤ i + 7 = omega arith in
      simp (take-set-le, word_below, long_below)

  carry_above : (n : ℕ) → i + carry_bytes ≤ n → drop n (put_carry a i c) ≡ drop n a
  unfolding put_carry
  carry_above n l =
      let l₀ : i < n = omega arith in
      let l₁ : i + 1 + 4 ≤ n = omega arith in
      let l₅ : i + 5 + 2 ≤ n = omega arith in
      let l₇ : i + 7 + 2 ≤ n = omega arith in
      simp (drop-set-lt, word_above, long_above)

  module _ (room : i + carry_bytes ≤ length a) where
    abbrev c₁ : List ℕ
    c₁ = set a i kind_carry

    abbrev c₂ : List ℕ
    c₂ = put_long c₁ (i + 1) c.first

    abbrev c₃ : List ℕ
    c₃ = put_word c₂ (i + 5) c.folded

    abbrev c₄ : List ℕ
    c₄ = put_word c₃ (i + 7) c.flagged

    c_length₁ : length c₁ ≡ length a
    c_length₁ = simp length-set

    c_length₂ : length c₂ ≡ length a
    c_length₂ = simp (long_length, length-set)

    c_length₃ : length c₃ ≡ length a
    c_length₃ = simp (word_length, long_length, length-set)

    to₂ : (n : ℕ) → n ≤ i + 5 → take n c₄ ≡ take n c₂
    to₂ n l = let l₇ : n ≤ i + 7 = omega arith in simp word_below

    to₁ : (n : ℕ) → n ≤ i + 1 → take n c₄ ≡ take n c₁
    to₁ n l = to₂ n (omega arith) ∙ long_below c₁ (i + 1) c.first n l

    carry_there : is_carry_at (put_carry a i c) i ≡ true
    unfolding is_carry_at put_carry
    carry_there = eq-eqb _ kind_carry (same_byte c₄ c₁ (i + 1) (to₁ (i + 1) (omega arith)) i (omega arith) ∙ get_or-set_same a i kind_carry 0 (omega arith))

    carry_same : carry_at (put_carry a i c) i ≡ c
    unfolding carry_at put_carry
    carry_same =
        let first = same_long c₄ c₂ (i + 5) (to₂ (i + 5) (omega arith)) (i + 1) (omega arith) ∙ long_same c₁ (i + 1) c.first (omega (arith, c_length₁)) in
        let folded =
        same_word c₄ c₃ (i + 7) (word_below c₃ (i + 7) c.flagged (i + 7) (omega arith)) (i + 5) (omega arith)
        ∙ word_same c₂ (i + 5) c.folded (omega (arith, c_length₂))
        in
        let flagged = word_same c₃ (i + 7) c.flagged (omega (arith, c_length₃)) in
        λ t. record { first = first t; folded = folded t; flagged = flagged t }

-- ---- the head written
module _ (a : List ℕ) (head : Head) where
  -- a head without a carry has none to write, and goes where none is
  abbrev pub Bare : Type 0
  Bare = head.carried ≡ false → (head.carry ≡ no_carry) × (is_carry_at a meter_bytes ≡ false)

  pub head_length : length (put_head a head) ≡ length a
  unfolding put_head
  head_length = by_carry head.carried
    where
      by_carry : (b : Bool) → length (cond b (put_carry (put_meter a head) meter_bytes head.carry) (put_meter a head)) ≡ length a
      by_carry true = carry_length (put_meter a head) meter_bytes head.carry ∙ meter_length a head
      by_carry false = meter_length a head

  -- what comes after it is as it was
  pub head_above : (n : ℕ) → head_bytes head ≤ n → drop n (put_head a head) ≡ drop n a
  unfolding put_head head_bytes
  head_above n = by_carry head.carried
    where
      by_carry : (b : Bool) → cond b (meter_bytes + carry_bytes) meter_bytes ≤ n → drop n (cond b (put_carry (put_meter a head) meter_bytes head.carry) (put_meter a head)) ≡ drop n a
      by_carry true l = carry_above (put_meter a head) meter_bytes head.carry n l ∙ meter_above a head n (omega arith)
      by_carry false l = meter_above a head n l

  module _ (room : head_bytes head ≤ length a) where
    meter_fits : meter_bytes ≤ length a
    unfolding head_bytes
    meter_fits = by_carry head.carried room
      where
        by_carry : (b : Bool) → cond b (meter_bytes + carry_bytes) meter_bytes ≤ length a → meter_bytes ≤ length a
        by_carry true l = omega arith
        by_carry false l = l

    -- a carry leaves the meter's entry
    meter_stays : take meter_bytes (put_head a head) ≡ take meter_bytes (put_meter a head)
    unfolding put_head
    meter_stays = by_carry head.carried
      where
        by_carry : (b : Bool) → take meter_bytes (cond b (put_carry (put_meter a head) meter_bytes head.carry) (put_meter a head)) ≡ take meter_bytes (put_meter a head)
        by_carry true = carry_below (put_meter a head) meter_bytes head.carry meter_bytes (omega arith)
        by_carry false = refl

    pub head_kind : byte_at (put_head a head) 0 ≡ meter_kind head.profile
    head_kind = same_byte (put_head a head) (put_meter a head) meter_bytes meter_stays 0 (omega arith) ∙ meter_kind_lem a head meter_fits

    module _ (b : Bool) (is : head.carried ≡ b) where
      put_is : put_head a head ≡ cond b (put_carry (put_meter a head) meter_bytes head.carry) (put_meter a head)
      unfolding put_head
      put_is = rw is

      fits_is : cond b (meter_bytes + carry_bytes) meter_bytes ≤ length a
      unfolding head_bytes
      fits_is = rw is at room

    -- the byte after the meter's entry, where no carry was written there
    kind_stays : is_carry_at (put_meter a head) meter_bytes ≡ is_carry_at a meter_bytes
    unfolding is_carry_at
    kind_stays = ap (λ (k : ℕ). eqb k kind_carry) (past_byte (put_meter a head) a meter_bytes (meter_above a head meter_bytes (omega arith)) meter_bytes (omega arith))

    abbrev CarryIs : Bool → Type 0
    CarryIs b = (is_carry_at (put_head a head) meter_bytes ≡ b) × (cond (is_carry_at (put_head a head) meter_bytes) (carry_at (put_head a head) meter_bytes) no_carry ≡ head.carry)

    carry_is : Bare → (b : Bool) → head.carried ≡ b → CarryIs b
    carry_is bare true is =
        let m : List ℕ = put_meter a head in
        let fits : meter_bytes + carry_bytes ≤ length m = omega (arith, fits_is true is, meter_length a head) in
        let there = carry_there m meter_bytes head.carry fits in
        rw (put_is true is, there) (refl, carry_same m meter_bytes head.carry fits)
    carry_is bare false is =
        let none = bare is in
        let there : is_carry_at (put_meter a head) meter_bytes ≡ false = kind_stays ∙ none.1 in
        rw (put_is false is, there) (refl, sym none.0)

    pub head_same : Bare → head_of (put_head a head) ≡ head
    unfolding head_of
    head_same bare =
        let profile = ap profile_of head_kind ∙ same_profile head.profile in
        let dials = same_byte (put_head a head) (put_meter a head) meter_bytes meter_stays 1 (omega arith) ∙ meter_dials a head meter_fits in
        let capacity = same_long (put_head a head) (put_meter a head) meter_bytes meter_stays 2 (omega arith) ∙ meter_capacity a head meter_fits in
        let carry = carry_is bare head.carried refl in
        λ t. record { profile = profile t; dials = dials t; capacity = capacity t; carried = carry.0 t; carry = carry.1 t }

-- ---- a head that is read: without a carry it counts nothing
pub bare_carry : (a : List ℕ) → (head_of a).carried ≡ false → (head_of a).carry ≡ no_carry
unfolding head_of
bare_carry a h = rw h
