-- The flags of the last three standing reads, and of those before them.
use Rattle.std.specs.Prelude.{Option, Some, None}
use mathlib.Core.Path.{◌≡◌, refl}
use mathlib.Core.Bool.{Bool, true, false, cond}
use mathlib.Core.List.{List, [], ◌∷◌}
use Prim.Native.Nat.{◌+◌, ◌≤◌}
use native.Mathlib.Omega.{arith}
use lib.ListN.{length, drop}
use Rattle.terms.specs.declared.entry.Entry.{Entry}
use Rattle.terms.specs.Entry.{keep_if, those, slot_at, recent_of}
use Rattle.journal.specs.Journal.{is_flagged}
use Rattle.journal.specs.Total.{flagged_of}
use Rattle.calls.specs.Fold.{reads_kept}
use Rattle.fold.specs.Inner.Flags.{flag_in, flags_in}

one_at_most : (b : Bool) → cond b 1 0 ≤ 1
one_at_most true = omega arith
one_at_most false = omega arith

pub flag_few : (slot : Option Entry) → flag_in slot ≤ 1
unfolding flag_in
flag_few (Some e) = one_at_most (is_flagged e)
flag_few None = omega arith

keep_length : (b : Bool) (e : Entry) (es : List Entry) → length (keep_if b e es) ≡ cond b 1 0 + length es
keep_length true e es = omega arith
keep_length false e es = omega arith

one_more : (e : Entry) (ss : List Entry) → flagged_of (e ∷ ss) ≡ flag_in (Some e) + flagged_of ss
unfolding flagged_of those flag_in
one_more e ss = keep_length (is_flagged e) e (those is_flagged ss)

none : flagged_of [] ≡ 0
unfolding flagged_of those
none = refl

no_flag : flag_in None ≡ 0
unfolding flag_in
no_flag = refl

pub flags_apart : (ss : List Entry) → flagged_of ss ≡ flagged_of (drop reads_kept ss) + flags_in (recent_of ss)
unfolding flags_in recent_of slot_at
flags_apart [] = omega (arith, none, no_flag)
flags_apart (a ∷ []) = omega (arith, none, no_flag, one_more a [])
flags_apart (a ∷ b ∷ []) = omega (arith, none, no_flag, one_more a (b ∷ []), one_more b [])
flags_apart (a ∷ b ∷ c ∷ ss) = omega (arith, one_more a (b ∷ c ∷ ss), one_more b (c ∷ ss), one_more c ss)
