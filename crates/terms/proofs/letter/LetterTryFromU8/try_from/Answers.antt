-- Each arm's byte is the letter of the type that it answers, and `_` has none of the letters.
use borrow.Author.Tests.{ne_eqb}
use Rattle.terms.specs.Letter.{is_known}
use Rattle.terms.proofs.letter.LetterTryFromU8.try_from.Goals as goal

pub returns-in_default : goal.returns-in_default
unfolding is_known
returns-in_default c =
    let none = c.in_default.in_default-own.rest in
    rw (
      ne_eqb _ _ none.0.0.0.0.0.0.0.0.0.0.1,
      ne_eqb _ _ none.0.0.0.0.0.0.0.0.0.1,
      ne_eqb _ _ none.0.0.0.0.0.0.0.0.1,
      ne_eqb _ _ none.0.0.0.0.0.0.0.1,
      ne_eqb _ _ none.0.0.0.0.0.0.1,
      ne_eqb _ _ none.0.0.0.0.0.1,
      ne_eqb _ _ none.0.0.0.0.1,
      ne_eqb _ _ none.0.0.0.1,
      ne_eqb _ _ none.0.0.1,
      ne_eqb _ _ none.0.1,
      ne_eqb _ _ none.1,
    )
