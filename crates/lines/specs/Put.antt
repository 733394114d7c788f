-- Text put into bytes that are lent, and what a function that puts it leaves.
use Rattle.std.specs.Prelude.{◌≡◌, List, [], ◌∷◌, ℕ, ◌+◌, length, set}

-- text put into bytes from a position on; what is past their end is not put
unfoldable pub put_bytes : List ℕ → ℕ → List ℕ → List ℕ
put_bytes out at [] = out
put_bytes out at (b ∷ bs) = put_bytes (set out at b) (at + 1) bs

-- the bytes with the text in them, and where the text ends
pub record Put (before : List ℕ) (at : ℕ) (text after : List ℕ) (next : ℕ) : Type 0 where
  pub bytes : after ≡ put_bytes before at text
  pub ends : next ≡ at + length text
