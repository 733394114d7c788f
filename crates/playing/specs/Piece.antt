-- 01, Day sheet and its program: a sheet played piece by piece, so that the text of a piece fits the bytes that are lent for it.
use Rattle.std.specs.Prelude.{◌≡◌, cond, List, [], ◌++◌, ℕ, suc, ◌≤◌, ◌<◌, ltb, length, take}
use Rattle.calls.specs.Play.{register_after}
use Rattle.playing.specs.declared.turn.Progress.{Progress}
use Rattle.sheet.specs.Sheet.{sheet_most, Split, split_from}
use Rattle.lines.specs.Line.{line_most}
use Rattle.playing.specs.Whole.{text_from, text_of}

-- what is left of a sheet from a position on; of an over-long one it is a fault
unfoldable pub rest_from : List ℕ → ℕ → Split
rest_from sheet at =
    cond (ltb sheet_most (length sheet))
    (record { calls = []; faulty = ltb at (length sheet) })
    (split_from (suc (length sheet)) sheet at)

-- What playing from a position on leaves: the position that it came to, and the register and the text of this piece. The text from the old
-- position on is this piece and then the text from the new one on.
pub record PlayedFrom (sheet : List ℕ) (at : ℕ) (register out : List ℕ) (p : Progress) (after written : List ℕ) : Type 0 where
  pub fits : line_most ≤ length out → p.end ≤ length out
  pub on : line_most ≤ length out → at < length sheet → at < p.at
  pub text_is : line_most ≤ length out → text_from (rest_from sheet at) register ≡ take p.end written ++ text_from (rest_from sheet p.at) after
  pub register_is : register_after (rest_from sheet p.at).calls after ≡ register_after (rest_from sheet at).calls register

-- THE CLAIM: from the start it is the whole text, and at the end nothing is left of it; so the pieces, one after another, are the text
pub record PiecesMakeTheText : Type 0 where
  pub starts : (sheet register : List ℕ) → text_from (rest_from sheet 0) register ≡ text_of sheet register
  pub ends : (sheet register : List ℕ) (at : ℕ) → length sheet ≤ at → text_from (rest_from sheet at) register ≡ []
