-- Text put into bytes: one text after another, where it stands, and the bytes around it.
use mathlib.Core.Path.{◌≡◌, refl, sym, ◌∙◌}
use mathlib.Core.List.{List, [], ◌∷◌, ◌++◌}
use Prim.Native.Nat.{ℕ, suc, ◌+◌, ◌≤◌}
use native.Mathlib.Nat.{add-zero}
use native.Mathlib.Numerals.{add-one}
use native.Mathlib.Omega.{arith}
use lib.ListN.{length, set, take, drop, length-append, length-set}
use lib.Seq.{sets, sets-eq, length-take-le, take_at}
use Rattle.lines.specs.Put.{put_bytes}
use Rattle.lines.specs.Put.{Put}

put_sets : (out : List ℕ) (at : ℕ) (bs : List ℕ) → put_bytes out at bs ≡ sets out at bs
unfolding put_bytes
put_sets out at [] = refl
put_sets out at (b ∷ bs) = rw add-one (put_sets (set out at b) (suc at) bs)

-- what stands before the end of text that was put
pub put_take : (out : List ℕ) (at : ℕ) (bs : List ℕ) → at + length bs ≤ length out → take (at + length bs) (put_bytes out at bs) ≡ take at out ++ bs
put_take out at bs h =
    let size : length (take at out ++ bs) ≡ at + length bs = simp length-append (omega (arith, length-take-le at out (omega arith))) in
    rw (put_sets, sets-eq bs out at h) (take_at (take at out ++ bs) (drop (at + length bs) out) (at + length bs) size)

-- as many bytes as before
pub put_bytes_length : (out : List ℕ) (at : ℕ) (bs : List ℕ) → length (put_bytes out at bs) ≡ length out
unfolding put_bytes
put_bytes_length out at [] = refl
put_bytes_length out at (b ∷ bs) = put_bytes_length (set out at b) (at + 1) bs ∙ length-set out at b

-- two texts, one after the other
pub put_append : (out : List ℕ) (at : ℕ) (xs ys : List ℕ) → put_bytes out at (xs ++ ys) ≡ put_bytes (put_bytes out at xs) (at + length xs) ys
unfolding put_bytes
put_append out at [] ys = rw add-zero
put_append out at (x ∷ xs) ys =
    let e : at + 1 + length xs ≡ at + suc (length xs) = omega arith in
    rw (← e) (put_append (set out at x) (at + 1) xs ys)

-- ---- what functions that put text leave
pub put_one : {a b : List ℕ} {at : ℕ} (y : ℕ) → b ≡ set a at y → Put a at (y ∷ []) b (at + 1)
unfolding put_bytes
put_one y e = record { bytes = e; ends = refl }

module _ {a : List ℕ} {at : ℕ} {xs : List ℕ} {b : List ℕ} {next : ℕ} (first : Put a at xs b next) where
  pub put_both : {ys c : List ℕ} {end : ℕ} → Put b next ys c end → Put a at (xs ++ ys) c end
  put_both {ys} second =
      record {
        bytes = second.bytes ∙ rw (first.bytes, first.ends) (sym (put_append a at xs ys));
        ends = simp length-append (omega (arith, first.ends, second.ends));
      }
