-- Every example computes to what it says; an over-long sheet is a fault by its length.
use mathlib.Core.Path.{◌≡◌, refl}
use mathlib.Core.List.{List, [], ◌∷◌}
use Prim.Native.Nat.{ℕ}
use native.Mathlib.Omega.{arith}
use borrow.Author.Tests.{lt-ltb}
use lib.ListN.{length}
use Rattle.calls.specs.Calls.{place_of, refusal_of, is_misfit, place_number, step}
use Rattle.calls.specs.Play.{exchanges}
use Rattle.sheet.specs.Sheet.{kind_byte, call_at, form_of, entry_at, next_at, next_number, sheet_most, go_on, split_from, split_of}
use Rattle.lines.specs.Decimal.{digits, digit_count_in, digit_count, decimal, signed}
use Rattle.lines.specs.Line.{field, last_field, line_of}
use Rattle.lines.proofs.Lengths.{fault_line_lem}
use Rattle.playing.specs.Whole.{lines_of, text_from, text_of}
use Rattle.playing.proofs.claims.examples_hold.Goals as goal

alone : (sheet register : List ℕ) → length sheet ≡ 60001 → text_of sheet register ≡ 50 ∷ 54 ∷ 32 ∷ 48 ∷ 32 ∷ 48 ∷ 10 ∷ []
unfolding next_number split_of exchanges lines_of text_from text_of
alone sheet register e = rw (lt-ltb sheet_most (length sheet) (omega (arith, e))) fault_line_lem

pub returns : goal.returns
unfolding place_of refusal_of is_misfit place_number step exchanges kind_byte call_at form_of entry_at next_at next_number go_on split_from split_of digits digit_count_in digit_count decimal signed field last_field line_of lines_of text_from text_of
returns c = record { no_call = refl; two_calls = refl; fault_between = refl; over_long = alone }
