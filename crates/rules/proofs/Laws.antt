-- What the rules' proofs share: the word that `advance` returns, the products of `scaled`, ten times an advance against 10^n, and a
-- number of two bytes, negated.
use mathlib.Core.Path.{◌≡◌, ap, ◌∙◌}
use Prim.Native.Nat.{ℕ, ◌^◌, ◌≤◌, ◌<◌}
use native.Mathlib.Omega.{arith}
use lib.IntN.{ℤ, pos, neg_ℤ, ◌-ℤ◌, ◌*ℤ◌, +ℤ_idl}
use lib.Signed.{mag, lt_z}
use borrow.Author.Rules.{sfits_of}
use mir.Syntax.{w64}
use mir.Val.{SFits, to_z, of_z}
use mir.ValLaws.{to_z-of_z, to_z_pos}
use Rattle.arithmetic.specs.Powers.{ten_to}
use Rattle.arithmetic.specs.Advance.{advance_of}
use Rattle.arithmetic.specs.Inner.Bounds.{advance_most, Within}
use Rattle.arithmetic.proofs.Laws.{ten_at_most, advance_within}
use Rattle.arithmetic.proofs.Signed.{Word, word_cast, word_of, word_difference, fits_difference, word_product, fits_product}
use Rattle.rules.specs.Settings.{fraction}
use Rattle.rules.specs.Detection.{scaled_of, is_small_part}

-- the word that holds z reads as the advance a
abbrev pub AdvanceWord : ℤ → ℤ → Type 0
AdvanceWord z a = Word (of_z w64 z) a advance_most

-- the word of an advance that a call returned is one
pub advance_word : {z : ℤ} (n newer flags older : ℕ) → z ≡ advance_of n newer flags older → newer ≤ 4294967295 → flags ≤ 255 → older ≤ 4294967295 → AdvanceWord z (advance_of n newer flags older)
advance_word n newer flags older e a f b = rw e (word_of (advance_within n newer flags older a f b) tt)

-- what `scaled` requires of it
pub word_within : {x : ℕ} {z : ℤ} {m : ℕ} → Word x z m → Within (to_z w64 x) m
word_within w = rw w.reads w.bound

-- the product that `scaled` returned for such a word
pub scaled_reads : {r a : ℤ} {x m : ℕ} (k later earlier : ℕ) → mag r < 2 ^ 63 → r ≡ scaled_of k (to_z w64 x) later earlier → Word x a m → to_z w64 (of_z w64 r) ≡ scaled_of k a later earlier
scaled_reads {r} k later earlier ok e w = to_z-of_z w64 r (sfits_of ok) ∙ e ∙ ap (λ (z : ℤ). scaled_of k z later earlier) w.reads

-- ten times an advance fits 64 bits, and its test against 10^n is `is_small_part`
ten : Word fraction (pos fraction) fraction
ten = word_cast (omega arith) tt

module _ {x : ℕ} {a : ℤ} (w : Word x a advance_most) where
  pub part_fits : SFits w64 (pos fraction *ℤ to_z w64 x)
  part_fits = fits_product ten w tt

  pub part_reads : (p n : ℕ) → p ≡ ten_to n → lt_z (to_z w64 (of_z w64 (pos fraction *ℤ to_z w64 x))) (to_z w64 p) ≡ is_small_part n a
  unfolding is_small_part
  part_reads p n e = rw ((word_product ten w tt).reads, e, to_z_pos w64 (ten_to n) (omega (arith, ten_at_most n)))

-- a power of the table fits 64 bits
pub power_fits : (p n : ℕ) → p ≡ ten_to n → SFits w64 (pos p)
power_fits p n e = rw e (record { sfits = omega (arith, ten_at_most n) })

-- and is the word of 10^n
pub power_word : (p n : ℕ) → p ≡ ten_to n → Word p (pos (ten_to n)) 1000000000
power_word p n e = rw e (word_cast (ten_at_most n) tt)

-- a number of two bytes, negated
module _ (x : ℕ) (h : x ≤ 65535) where
  pub negated_fits : SFits w64 (to_z w64 0 -ℤ to_z w64 x)
  negated_fits = fits_difference 0 x 65535 (omega arith) h tt

  pub negated_reads : to_z w64 (of_z w64 (to_z w64 0 -ℤ to_z w64 x)) ≡ neg_ℤ (pos x)
  negated_reads = (word_difference 0 x 65535 (omega arith) h tt).reads ∙ +ℤ_idl (neg_ℤ (pos x))
