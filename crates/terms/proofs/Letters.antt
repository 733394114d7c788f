-- A byte that is read as a type is one of the eleven.
use Rattle.std.specs.Prelude.{Result, Ok, Err}
use Rattle.std.specs.Result.{is_ok}
use mathlib.Core.Path.{◌≡◌, refl, sym}
use mathlib.Core.Bool.{true}
use Prim.Native.Nat.{ℕ}
use Rattle.terms.specs.declared.letter.Letter.{Letter}
use Rattle.terms.specs.declared.letter.Letter.TheVariants as l
use Rattle.terms.specs.declared.letter.UnknownLetter.{UnknownLetter}
use Rattle.terms.specs.Letter.{is_known}
use Rattle.terms.specs.Letters.{byte_of, Reads}

known : (letter : Letter) → true ≡ is_known (byte_of letter)
unfolding is_known
known l.Initial = refl
known l.Opening = refl
known l.Final = refl
known l.Cyclic = refl
known l.Customer = refl
known l.Amr = refl
known l.Transfer = refl
known l.EstimatedTransfer = refl
known l.Disconnection = refl
known l.Reconnection = refl
known l.End = refl

pub read_known : (byte : ℕ) (r : Result Letter UnknownLetter) → Reads byte r → is_ok r ≡ is_known byte
read_known byte (Ok letter) is = rw (← is) (known letter)
read_known byte (Err u) is = sym is
