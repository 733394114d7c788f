-- How far a signed number is from 0.
use Rattle.std.specs.Prelude.{ℕ, ◌≤◌, ℤ, nat_abs}

-- |z| ≤ m
pub record Within (z : ℤ) (m : ℕ) : Type 0 where
  pub within : nat_abs z ≤ m

-- the most that an advance can be from 0: two values of 4 bytes and 255 flags of at most 10^9
abbrev pub advance_most : ℕ
advance_most = 259294967295
