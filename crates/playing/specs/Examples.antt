-- 01, Day sheet and its program: the text of small sheets, as bytes. Every call on a register of one byte is answered 2.
use Rattle.std.specs.Prelude.{◌≡◌, List, [], ◌∷◌, ℕ, length}
use Rattle.playing.specs.Whole.{text_of}

-- THE CLAIM: one row for each example
pub record ExamplesHold : Type 0 where
  pub no_call : text_of [] (0 ∷ []) ≡ []
  -- a fold and a report: `2 0 0` and `2 0 0 0`
  pub two_calls : text_of (5 ∷ 7 ∷ 4 ∷ 7 ∷ []) (0 ∷ []) ≡ 50 ∷ 32 ∷ 48 ∷ 32 ∷ 48 ∷ 10 ∷ 50 ∷ 32 ∷ 48 ∷ 32 ∷ 48 ∷ 32 ∷ 48 ∷ 10 ∷ []
  -- "Sheet fault: line `26 0 0`, and it ends": a fold, the unknown kind 9, and a report that is not played
  pub fault_between : text_of (5 ∷ 7 ∷ 9 ∷ 4 ∷ 7 ∷ []) (0 ∷ []) ≡ 50 ∷ 32 ∷ 48 ∷ 32 ∷ 48 ∷ 10 ∷ 50 ∷ 54 ∷ 32 ∷ 48 ∷ 32 ∷ 48 ∷ 10 ∷ []
  -- "an over-long sheet gives that line alone"
  pub over_long : (sheet register : List ℕ) → length sheet ≡ 60001 → text_of sheet register ≡ 50 ∷ 54 ∷ 32 ∷ 48 ∷ 32 ∷ 48 ∷ 10 ∷ []
