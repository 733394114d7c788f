-- What is read in a part is what is read in the whole, counted from where the part begins.
use mathlib.Core.Path.{◌≡◌, sym, ap, ◌∙◌}
use mathlib.Core.List.{List, []}
use Prim.Native.Nat.{ℕ, ◌+◌, ◌-◌, ◌≤◌, ◌<◌}
use native.Mathlib.Omega.{arith}
use lib.ListN.{length, take, drop, length-drop, drop_of_length-le}
use lib.Seq.{take_all, take-take, get_or-drop}
use Rattle.register.specs.Bytes.{byte_at, word_at, long_at}
use Rattle.register.specs.Entries.{entry_bytes, entry_at}
use Rattle.register.proofs.Back.{same_byte, same_word, same_long, same_entry}

module _ (bytes : List ℕ) (at : ℕ) where
  -- ---- from a byte on
  later_byte : (i j : ℕ) → at + i ≡ j → byte_at (drop at bytes) i ≡ byte_at bytes j
  later_byte i j e = rw e at (get_or-drop at bytes i 0)

  later_word : (i j : ℕ) → at + i ≡ j → word_at (drop at bytes) i ≡ word_at bytes j
  unfolding word_at
  later_word i j e = cc (later_byte i j e, later_byte (i + 1) (j + 1) (omega arith))

  later_long : (i j : ℕ) → at + i ≡ j → long_at (drop at bytes) i ≡ long_at bytes j
  unfolding long_at
  later_long i j e = cc (later_word i j e, later_word (i + 2) (j + 2) (omega arith))

  later_entry : entry_at (drop at bytes) 0 ≡ entry_at bytes at
  unfolding entry_at
  later_entry =
      cc (
        later_byte 0 at (omega arith),
        later_word 1 (at + 1) (omega arith),
        later_long 3 (at + 3) (omega arith),
        later_byte 7 (at + 7) (omega arith),
        later_byte 8 (at + 8) (omega arith),
        later_byte 9 (at + 9) (omega arith),
      )

  -- ---- in a part of n bytes
  module _ (n : ℕ) where
    abbrev part : List ℕ
    part = take n (drop at bytes)

    alike : take n part ≡ take n (drop at bytes)
    alike = take-take n n (drop at bytes) (omega arith)

    pub part_byte : (i j : ℕ) → at + i ≡ j → i < n → byte_at part i ≡ byte_at bytes j
    part_byte i j e l = same_byte part (drop at bytes) n alike i l ∙ later_byte i j e

    pub part_word : (i j : ℕ) → at + i ≡ j → i + 2 ≤ n → word_at part i ≡ word_at bytes j
    part_word i j e l = same_word part (drop at bytes) n alike i l ∙ later_word i j e

    pub part_long : (i j : ℕ) → at + i ≡ j → i + 4 ≤ n → long_at part i ≡ long_at bytes j
    part_long i j e l = same_long part (drop at bytes) n alike i l ∙ later_long i j e

  -- ---- the ten bytes of an entry
  pub part_entry : entry_at (take (at + entry_bytes - at) (drop at bytes)) 0 ≡ entry_at bytes at
  part_entry = same_entry (part (at + entry_bytes - at)) (drop at bytes) (at + entry_bytes - at) (alike (at + entry_bytes - at)) 0 (omega arith) ∙ later_entry

  -- ---- all that follows
  pub rest_entry : entry_at (take (length bytes - at) (drop at bytes)) 0 ≡ entry_at bytes at
  rest_entry = rw (take_all (length bytes - at) (drop at bytes) (simp length-drop (omega arith))) later_entry

  -- ---- past the end there are zeros
  pub none_entry : length bytes ≤ at → entry_at [] 0 ≡ entry_at bytes at
  none_entry h = ap (λ (rest : List ℕ). entry_at rest 0) (sym (drop_of_length-le bytes h)) ∙ later_entry
