-- A sheet is read to its end or to the first byte that it may not have, and either way its calls are those of what was read.
use Rattle.std.proofs.Common.{◌≡◌, ℕ, ◌+◌, ◌<◌, List, [], ◌∷◌, length, arith, ap, ◌∙◌, sym, length-append, append-nil}
use Rattle.std.specs.Prelude.{Option, Some, None, Result, Ok, Err, IfOk, IfSome, OnOk, take}
use Rattle.std.specs.Io.{ReadsAtMost}
use Rattle.std.specs.Io.KnownBytes.{Consumes, IsAtEnd}
use borrow.Author.Tests.{lt-ltb}
use Rattle.sheet.specs.Sheet.{sheet_most, Split, split_of}

-- sheets that are too long are one fault each, and no call
over_long : (sheet sheet' : List ℕ) → sheet_most < length sheet → sheet_most < length sheet' → split_of sheet ≡ split_of sheet'
unfolding split_of
over_long sheet sheet' long long' = rw (lt-ltb sheet_most (length sheet) long, lt-ltb sheet_most (length sheet') long')

pub split_of_read : (known rest : Option (List ℕ)) (read : List ℕ) → Consumes known rest read → (length read < sheet_most + 1 → IsAtEnd rest) → IfSome known (λ sheet. split_of read ≡ split_of sheet)
split_of_read None rest read taken ended = tt
split_of_read (Some sheet) None read taken ended = absurd taken
split_of_read (Some sheet) (Some []) read taken ended = ap split_of (sym (taken ∙ append-nil read))
split_of_read (Some sheet) (Some (x ∷ rest)) read taken ended =
    let full : length read < sheet_most + 1 → ⊥ = λ h. let none : x ∷ rest ≡ [] = ended h in cc in
    over_long read sheet (omega (arith, full)) (omega (arith, ap length taken, length-append read (x ∷ rest), full))

pub whole_read : {E : Type 0} (r : Result ℕ E) (known rest : Option (List ℕ)) (room : List ℕ) → length room ≡ sheet_most + 1 → ReadsAtMost r room → IfOk r (λ n. Consumes known rest (take n room)) → IfOk r (λ n. n < length room → IsAtEnd rest) → IfOk r (λ n. IfSome known (λ sheet. split_of (take n room) ≡ split_of sheet))
whole_read (Err e) known rest room size within bytes end = tt
whole_read (Ok n) known rest room size within bytes end =
    split_of_read known rest (take n room) bytes (λ h. end (omega (arith, within, size)))

-- what a program makes of the calls and the fault of what was read, it makes of those of the whole sheet
pub of_whole : {E : Type 0} (P : Split → Type 0) (r : Result (Unit {0}) E) (known : Option (List ℕ)) (read : List ℕ) → IfSome known (λ sheet. split_of read ≡ split_of sheet) → OnOk r (P (split_of read)) → OnOk r (IfSome known (λ sheet. P (split_of sheet)))
of_whole P (Err e) known read same made = tt
of_whole P (Ok u) None read same made = tt
of_whole P (Ok u) (Some sheet) read same made = rw (← same) made
