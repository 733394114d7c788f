-- 01, The register: the kinds of entry, the indicator, and the reads that a journal's entries hold. Lists of entries have the newest first.
use Rattle.std.specs.Prelude.{Bool, true, false, List, [], ◌∷◌, ℕ, zero, suc, eqb, Option, Some, None}
use Rattle.terms.specs.declared.entry.Entry.{Entry}
use Rattle.terms.specs.declared.entry.Recent.{Recent}

-- "Kind 1, meter"; "Kinds 2 standing, 3 withdrawn, 4 held"; 02, 2: "a carry, kind 5"; 02, 4: "Kind 7 stands where kind 1 would"
abbrev pub kind_meter : ℕ
kind_meter = 1

abbrev pub kind_standing : ℕ
kind_standing = 2

abbrev pub kind_withdrawn : ℕ
kind_withdrawn = 3

abbrev pub kind_held : ℕ
kind_held = 4

abbrev pub kind_carry : ℕ
kind_carry = 5

abbrev pub kind_pseudo : ℕ
kind_pseudo = 7

-- "indicator (1 byte: 0 not set, 1 false, 2 true)"
abbrev pub indicator_not_set : ℕ
indicator_not_set = 0

abbrev pub indicator_false : ℕ
indicator_false = 1

abbrev pub indicator_true : ℕ
indicator_true = 2

unfoldable pub is_standing : Entry → Bool
is_standing e = eqb e.kind kind_standing

unfoldable pub is_withdrawn : Entry → Bool
is_withdrawn e = eqb e.kind kind_withdrawn

unfoldable pub is_held : Entry → Bool
is_held e = eqb e.kind kind_held

abbrev pub keep_if : Bool → Entry → List Entry → List Entry
keep_if true e es = e ∷ es
keep_if false e es = es

-- the entries that pass a test, in their order
unfoldable pub those : (Entry → Bool) → List Entry → List Entry
those test [] = []
those test (e ∷ es) = keep_if (test e) e (those test es)

-- 01, Detection: "R0, R-1, R-2: last, second last, third last standing values, where they exist"
unfoldable pub slot_at : List Entry → ℕ → Option Entry
slot_at [] k = None
slot_at (e ∷ es) zero = Some e
slot_at (e ∷ es) (suc k) = slot_at es k

unfoldable pub recent_of : List Entry → Recent
recent_of standing = record { last = slot_at standing 0; second = slot_at standing 1; third = slot_at standing 2 }
