-- 01: "Multi-byte numbers are unsigned, low byte first." Numbers read from a list of bytes and written into one.
use Rattle.std.specs.Prelude.{List, ℕ, ◌+◌, ◌*◌, ◌/◌, ◌%◌, get_or, set}

-- one byte, and 0 past the end
abbrev pub byte_at : List ℕ → ℕ → ℕ
byte_at bytes i = get_or bytes i 0

-- two bytes
unfoldable pub word_at : List ℕ → ℕ → ℕ
word_at bytes i = byte_at bytes i + 256 * byte_at bytes (i + 1)

-- four bytes
unfoldable pub long_at : List ℕ → ℕ → ℕ
long_at bytes i = word_at bytes i + 65536 * word_at bytes (i + 2)

unfoldable pub put_word : List ℕ → ℕ → ℕ → List ℕ
put_word bytes i v = set (set bytes i (v % 256)) (i + 1) (v / 256)

unfoldable pub put_long : List ℕ → ℕ → ℕ → List ℕ
put_long bytes i v = put_word (put_word bytes i (v % 65536)) (i + 2) (v / 65536)
