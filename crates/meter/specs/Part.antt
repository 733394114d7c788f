-- 01, Calls: "Journal (place): hands back the meter's part of the caller's own register, from its start to its last entry's end". Where a slice
-- lies is a pair of numbers: its block of memory, and the byte of the block that it begins at.
use Rattle.std.specs.Prelude.{◌≡◌, List, [], ℕ, ◌+◌, ◌*◌}
use Rattle.register.specs.Area.{area_bytes}
use Rattle.calls.specs.Calls.{journal_part}

-- a number of bytes after the start of a slice, in its own block
abbrev pub bytes_after : ℕ → ℕ × ℕ → ℕ × ℕ
bytes_after n start = (start.0, n + start.1)

-- a part that is handed back, of a register that lies at `lent`: its bytes, and where it lies unless it is empty
pub record Part (place : ℕ) (register : List ℕ) (lent : ℕ × ℕ) (bytes : List ℕ) (handed : ℕ × ℕ) : Type 0 where
  pub bytes_are : bytes ≡ journal_part place register
  pub starts : (bytes ≡ [] → ⊥) → handed ≡ bytes_after (area_bytes * place) lent
