-- 01, Day sheet and its program: what a sheet prints on a register, and the register that it leaves.
use Rattle.std.specs.Prelude.{◌≡◌, Bool, true, false, List, [], ◌∷◌, ◌++◌, ℕ, ◌*◌, ◌≤◌, length, take}
use Rattle.terms.specs.Answer.{refusal}
use Rattle.calls.specs.declared.call.Reply.TheVariants.{Answered}
use Rattle.calls.specs.Play.{Exchange, exchanges, register_after}
use Rattle.sheet.specs.declared.split.Next.TheVariants.{Fault}
use Rattle.sheet.specs.Sheet.{next_number, Split, split_of}
use Rattle.lines.specs.Line.{line_of}
use Rattle.lines.specs.Put.{put_bytes}

-- "prints one line a call"
unfoldable pub lines_of : List Exchange → List ℕ
lines_of [] = []
lines_of (x ∷ xs) = line_of x.reply ++ lines_of xs

-- "Sheet fault: line `26 0 0`, and it ends"
abbrev pub fault_line : List ℕ
fault_line = line_of (Answered (refusal (next_number Fault)))

abbrev pub end_of : Bool → List ℕ
end_of true = fault_line
end_of false = []

unfoldable pub text_from : Split → List ℕ → List ℕ
text_from split register = lines_of (exchanges split.calls register) ++ end_of split.faulty

unfoldable pub text_of : List ℕ → List ℕ → List ℕ
text_of sheet register = text_from (split_of sheet) register

-- an entry of two bytes or more prints at most 85, and one of a single byte is a fault, which prints 7
abbrev pub printed_most : ℕ
printed_most = 43

-- what a sheet that is played leaves: the register after its calls, and the text put into bytes, all of it there if they are enough; and where
-- the text ends
pub record Played (sheet register out after written : List ℕ) (end : ℕ) : Type 0 where
  pub register_is : after ≡ register_after (split_of sheet).calls register
  pub text_is : written ≡ put_bytes out 0 (text_of sheet register)
  pub end_is : end ≡ length (text_of sheet register)
  pub shown : end ≤ length out → take end written ≡ text_of sheet register
  pub most : end ≤ printed_most * length sheet
