-- Text that a `Text` has, one after another: the fields of a line.
use mathlib.Core.Path.{◌≡◌, refl, ◌∙◌}
use mathlib.Core.List.{List, [], ◌∷◌, ◌++◌}
use Prim.Native.Nat.{ℕ, ◌+◌, ◌^◌, ◌<◌}
use native.Mathlib.Omega.{arith}
use lib.IntN.{ℤ}
use lib.ListN.{set}
use mir.Syntax.{w64}
use mir.Val.{SFits, to_z, of_z}
use mir.ValLaws.{to_z-of_z}
use Rattle.std.specs.Fmt as std
use Rattle.lines.specs.declared.text.Text.{Text}
use Rattle.lines.specs.Inner.Adds.{Adds}
use Rattle.lines.specs.Line.{field, last_field}
use Rattle.lines.specs.Put.{put_bytes}
use Rattle.lines.proofs.Digits.{decimal_text, signed_text}
use Rattle.lines.proofs.Pasted.{put_one, put_both}

pub adds_none : {a : Text} → Adds a [] a
unfolding put_bytes
adds_none = record { same_reference = refl; put = record { bytes = refl; ends = omega arith } }

pub adds_one : {a b : Text} (y : ℕ) → b.out.ghost_name ≡ a.out.ghost_name → b.out.now ≡ set a.out.now a.end y → b.end ≡ a.end + 1 → Adds a (y ∷ []) b
adds_one y same put more = record { same_reference = same; put = rw more (put_one y put) }

pub adds_both : {a b c : Text} {xs ys : List ℕ} → Adds a xs b → Adds b ys c → Adds a (xs ++ ys) c
adds_both first second =
    record {
      same_reference = second.same_reference ∙ first.same_reference;
      put = put_both first.put second.put;
    }

pub adds_field : {a b : Text} (n : ℕ) → n < 2 ^ 64 → Adds a (std.decimal n ++ (32 ∷ [])) b → Adds a (field n) b
unfolding field
adds_field n fits added = rw (decimal_text n fits) at added

pub adds_last : {a b : Text} (z : ℤ) → SFits w64 z → Adds a (std.signed_decimal (to_z w64 (of_z w64 z)) ++ (10 ∷ [])) b → Adds a (last_field z) b
unfolding last_field
adds_last z fits added = rw (to_z-of_z w64 z fits, signed_text z fits.sfits) at added
