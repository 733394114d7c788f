-- The areas of a register after one of them is put anew: that one is the new one, every other is as it was.
use mathlib.Core.Path.{◌≡◌, refl, sym, ap, ◌∙◌}
use Prim.Native.Nat.{ℕ, ◌+◌, ◌*◌, ◌-◌, ◌≤◌, ◌<◌}
use mathlib.Core.List.{List, ◌++◌, append_assoc}
use mathlib.Core.Logic.{◌⊎◌, ⊎_elim}
use native.Mathlib.Omega.{arith}
use lib.ListN.{length, take, drop, length-append, length-drop, take-append-drop}
use lib.Seq.{length-take-le, take-append-le, drop-append-le, drop-append-add, take_at, drop_at, drop-drop}
use Rattle.register.specs.Area.{area_bytes, areas_in, register_bytes, area_of, with_area}

-- a part of the first of two pieces
part_left : (n k : ℕ) (xs ys : List ℕ) → n + k ≤ length xs → take k (drop n (xs ++ ys)) ≡ take k (drop n xs)
part_left n k xs ys h =
    ap (take k) (drop-append-le n xs ys (omega arith))
    ∙ take-append-le k (drop n xs) ys (simp length-drop (omega arith))

-- an area that the register has is 512 bytes long
pub area_length : (p : ℕ) (register : List ℕ) → area_bytes * p + area_bytes ≤ length register → length (area_of p register) ≡ area_bytes
unfolding area_of
area_length p register room = length-take-le area_bytes (drop (area_bytes * p) register) (simp length-drop (omega arith))

-- ---- how many areas a register has
-- each of them has room there
pub area_room : (p : ℕ) (register : List ℕ) → length register ≡ register_bytes → p < areas_in register → area_bytes * p + area_bytes ≤ length register
unfolding areas_in
area_room p register size near = omega arith

-- registers of one length have the same number
pub same_areas : (a b : List ℕ) → length a ≡ length b → areas_in a ≡ areas_in b
unfolding areas_in
same_areas a b h = refl

-- ---- an area put anew
-- a register with its own area put back is itself
pub own_area : (p : ℕ) (register : List ℕ) → with_area p (area_of p register) register ≡ register
unfolding area_of with_area
own_area p register =
    ap (λ (l : List ℕ). take (area_bytes * p) register ++ l)
    (ap (λ (l : List ℕ). take area_bytes (drop (area_bytes * p) register) ++ l) (sym (drop-drop area_bytes (area_bytes * p) register))
    ∙ take-append-drop area_bytes (drop (area_bytes * p) register))
    ∙ take-append-drop (area_bytes * p) register

module _ (p : ℕ) (area register : List ℕ) (size : length area ≡ area_bytes) (room : area_bytes * p + area_bytes ≤ length register) where
  before : length (take (area_bytes * p) register) ≡ area_bytes * p
  before = length-take-le (area_bytes * p) register (omega arith)

  head : length (take (area_bytes * p) register ++ area) ≡ area_bytes * p + area_bytes
  head = simp length-append (omega (arith, before))

  pub with_length : length (with_area p area register) ≡ length register
  unfolding with_area
  with_length = simp (length-append, length-drop) (omega (arith, before))

  pub area_same : area_of p (with_area p area register) ≡ area
  unfolding area_of with_area
  area_same =
      ap (take area_bytes) (drop_at (take (area_bytes * p) register) (area ++ drop (area_bytes * p + area_bytes) register) (area_bytes * p) before)
      ∙ take_at area (drop (area_bytes * p + area_bytes) register) area_bytes size

  area_below : (q : ℕ) → q < p → area_of q (with_area p area register) ≡ area_of q register
  unfolding area_of with_area
  area_below q h =
      part_left (area_bytes * q) area_bytes (take (area_bytes * p) register) (area ++ drop (area_bytes * p + area_bytes) register) (omega (arith, before))
      ∙ sym (part_left (area_bytes * q) area_bytes (take (area_bytes * p) register) (drop (area_bytes * p) register) (omega (arith, before)))
      ∙ ap (λ (l : List ℕ). take area_bytes (drop (area_bytes * q) l)) (take-append-drop (area_bytes * p) register)

  area_above : (q : ℕ) → p < q → area_of q (with_area p area register) ≡ area_of q register
  unfolding area_of with_area
  area_above q h =
      let n : ℕ = area_bytes * q - (area_bytes * p + area_bytes) in
      let e : area_bytes * q ≡ length (take (area_bytes * p) register ++ area) + n = omega (arith, head) in
      let f : area_bytes * p + area_bytes + n ≡ area_bytes * q = omega arith in
      ap (take area_bytes)
      (ap (drop (area_bytes * q)) (sym (append_assoc (take (area_bytes * p) register) area (drop (area_bytes * p + area_bytes) register)))
      ∙ ap (λ (k : ℕ). drop k (take (area_bytes * p) register ++ area ++ drop (area_bytes * p + area_bytes) register)) e
      ∙ drop-append-add (take (area_bytes * p) register ++ area) (drop (area_bytes * p + area_bytes) register) n
      ∙ drop-drop n (area_bytes * p + area_bytes) register
      ∙ ap (λ (k : ℕ). drop k register) f)

  -- every other place keeps its area
  pub area_other : (q : ℕ) → (q < p) ⊎ (p < q) → area_of q (with_area p area register) ≡ area_of q register
  area_other q = ⊎_elim (area_below q) (area_above q)
