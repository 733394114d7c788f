use Rattle.std.specs.Prelude.{◌≡◌, ℕ, false, Result, MatchResult}
use Rattle.terms.specs.declared.letter.Letter.{Letter}
use Rattle.terms.specs.declared.letter.Letter.TheVariants as l
use Rattle.terms.specs.declared.letter.UnknownLetter.{UnknownLetter}
use Rattle.terms.specs.Letter.{letter_i, letter_o, letter_f, letter_c, letter_u, letter_r, letter_t, letter_s, letter_x, letter_y, letter_e, is_known}

-- the byte of each type
abbrev pub byte_of : Letter → ℕ
byte_of l.Initial = letter_i
byte_of l.Opening = letter_o
byte_of l.Final = letter_f
byte_of l.Cyclic = letter_c
byte_of l.Customer = letter_u
byte_of l.Amr = letter_r
byte_of l.Transfer = letter_t
byte_of l.EstimatedTransfer = letter_s
byte_of l.Disconnection = letter_x
byte_of l.Reconnection = letter_y
byte_of l.End = letter_e

-- the type whose letter a byte is, or that it is none
abbrev pub Reads : ℕ → Result Letter UnknownLetter → Type 0
Reads byte r = MatchResult r (λ letter. byte_of letter ≡ byte) (λ u. is_known byte ≡ false)
