-- The line of a fault, byte by byte, and how long a line is.
use mathlib.Core.Path.{◌≡◌, refl}
use mathlib.Core.List.{[], ◌∷◌}
use Prim.Native.Nat.{ℕ, suc, ◌≤◌}
use native.Mathlib.Omega.{arith}
use lib.IntN.{ℤ, pos, negsuc}
use lib.ListN.{length, length-append}
use Rattle.terms.specs.Answer.{refusal}
use Rattle.terms.specs.Number.{sheet_fault}
use Rattle.calls.specs.declared.call.Reply.{Reply}
use Rattle.calls.specs.declared.call.Reply.TheVariants.{Answered, Reported}
use Rattle.lines.specs.Decimal.{digits, digit_count_in, digit_count, decimal, signed}
use Rattle.lines.specs.Line.{field, last_field, line_of, line_most}
use Rattle.lines.proofs.Digits.{decimal_length}

pub fault_line_lem : line_of (Answered (refusal sheet_fault)) ≡ 50 ∷ 54 ∷ 32 ∷ 48 ∷ 32 ∷ 48 ∷ 10 ∷ []
unfolding digits digit_count_in digit_count decimal signed field last_field line_of
fault_line_lem = refl

-- ---- how long
field_most : (n : ℕ) → length (field n) ≤ 21
unfolding field
field_most n = simp length-append (omega (arith, decimal_length n))

signed_most : (z : ℤ) → length (signed z) ≤ 21
unfolding signed
signed_most (pos n) = omega (arith, decimal_length n)
signed_most (negsuc n) = omega (arith, decimal_length (suc n))

last_most : (z : ℤ) → length (last_field z) ≤ 22
unfolding last_field
last_most z = simp length-append (omega (arith, signed_most z))

-- of any reply
pub line_most_lem : (reply : Reply) → length (line_of reply) ≤ line_most
unfolding line_of
line_most_lem (Answered a) =
    simp length-append (omega (arith, field_most a.number, field_most a.flag, last_most a.advance))
line_most_lem (Reported r) =
    simp length-append
    (omega (arith, field_most r.number, field_most r.standing, field_most r.flagged, last_most r.total))
