-- The area that is lent out of a register, and the register when it comes back.
use mathlib.Core.Path.{◌≡◌, ap}
use Prim.Native.Nat.{ℕ, ◌+◌, ◌*◌, ◌-◌}
use mathlib.Core.List.{List, ◌++◌}
use native.Mathlib.Omega.{arith}
use lib.ListN.{take, drop}
use borrow.Rule.Slice.PartMut.{mid_of, put_mid, Post-is}
use Rattle.register.specs.Area.{area_bytes, area_of, with_area}

module _ (p : ℕ) (register : List ℕ) where
  abbrev start : ℕ
  start = area_bytes * p

  -- what is lent is the area
  pub lent : mid_of start (start + area_bytes - start) register ≡ area_of p register
  unfolding area_of
  lent =
      let size : start + area_bytes - start ≡ area_bytes = omega arith in
      ap (λ (k : ℕ). take k (drop start register)) size

  -- what comes back is the register with the new area
  pub back : (area : List ℕ) → put_mid start (start + area_bytes - start) register area ≡ with_area p area register
  unfolding with_area
  back area = ap (λ (rest : List ℕ). take start register ++ (area ++ rest)) (Post-is start (start + area_bytes) register (omega arith))
