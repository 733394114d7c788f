-- 01, Day sheet and its program: lines as bytes. 48 to 57 are the digits, 32 is the space, 45 the minus sign and 10 the line feed.
use Rattle.std.specs.Prelude.{◌≡◌, [], ◌∷◌, ◌≤◌, pos, negsuc, length}
use Rattle.terms.specs.Answer.{answer, refusal, reported}
use Rattle.terms.specs.Number.{sheet_fault}
use Rattle.calls.specs.declared.call.Reply.{Reply}
use Rattle.calls.specs.declared.call.Reply.TheVariants.{Answered, Reported}
use Rattle.lines.specs.Decimal.{decimal, signed}
use Rattle.lines.specs.Line.{line_of, line_most}

-- THE CLAIM: one row for each example
pub record ExamplesHold : Type 0 where
  -- lines of case S: `0 0 200`, `18 0 0`, `0 1 -500` and `0 3 0 400`
  pub accepted : line_of (Answered (answer 0 0 (pos 200))) ≡ 48 ∷ 32 ∷ 48 ∷ 32 ∷ 50 ∷ 48 ∷ 48 ∷ 10 ∷ []
  pub refused : line_of (Answered (refusal 18)) ≡ 49 ∷ 56 ∷ 32 ∷ 48 ∷ 32 ∷ 48 ∷ 10 ∷ []
  pub withdrawn : line_of (Answered (answer 0 1 (negsuc 499))) ≡ 48 ∷ 32 ∷ 49 ∷ 32 ∷ 45 ∷ 53 ∷ 48 ∷ 48 ∷ 10 ∷ []
  pub report : line_of (Reported (reported 0 3 0 (pos 400))) ≡ 48 ∷ 32 ∷ 51 ∷ 32 ∷ 48 ∷ 32 ∷ 52 ∷ 48 ∷ 48 ∷ 10 ∷ []
  -- no two fields alike: `7 12 3 -9`
  pub negative_report : line_of (Reported (reported 7 12 3 (negsuc 8))) ≡ 55 ∷ 32 ∷ 49 ∷ 50 ∷ 32 ∷ 51 ∷ 32 ∷ 45 ∷ 57 ∷ 10 ∷ []
  -- "line `26 0 0`"
  pub fault : line_of (Answered (refusal sheet_fault)) ≡ 50 ∷ 54 ∷ 32 ∷ 48 ∷ 32 ∷ 48 ∷ 10 ∷ []
  -- the edges of a digit and of two, and the longest number: −2^63
  pub nine : decimal 9 ≡ 57 ∷ []
  pub ten : decimal 10 ≡ 49 ∷ 48 ∷ []
  pub ninety_nine : decimal 99 ≡ 57 ∷ 57 ∷ []
  pub hundred : decimal 100 ≡ 49 ∷ 48 ∷ 48 ∷ []
  pub least : signed (negsuc 9223372036854775807) ≡ 45 ∷ 57 ∷ 50 ∷ 50 ∷ 51 ∷ 51 ∷ 55 ∷ 50 ∷ 48 ∷ 51 ∷ 54 ∷ 56 ∷ 53 ∷ 52 ∷ 55 ∷ 55 ∷ 53 ∷ 56 ∷ 48 ∷ 56 ∷ []
  -- every line fits in 85 bytes
  pub fits : (reply : Reply) → length (line_of reply) ≤ line_most
