-- 01, The register: what an area of 512 bytes means. Lists of entries have the newest first.
use Rattle.std.specs.Prelude.{Bool, true, false, ◌||◌, cond, List, [], ◌∷◌, ℕ, zero, suc, eqb, length, replicate, Option, Some, None}
use Rattle.terms.specs.declared.entry.Entry.{Entry}
use Rattle.terms.specs.Entry.{is_standing, is_withdrawn, is_held, those}
use Rattle.register.specs.declared.head.Head.{Head}
use Rattle.register.specs.Area.{area_bytes}
use Rattle.register.specs.Bytes.{byte_at}
use Rattle.register.specs.Entries.{entry_start, entry_at, put_entry}
use Rattle.register.specs.Head.{head_of, most_entries, body_of, put_head, offset_after}

-- the first k entries of a body
unfoldable pub entries_to : ℕ → List ℕ → List Entry
entries_to zero body = []
entries_to (suc k) body = entry_at body (entry_start k) ∷ entries_to k body

-- how many entries a body has: they end at the first zero kind byte. k are counted, and at most `left` more may be.
unfoldable pub count_from : ℕ → ℕ → List ℕ → ℕ
count_from zero k body = k
count_from (suc left) k body = cond (eqb (byte_at body (entry_start k)) 0) k (count_from left (suc k) body)

unfoldable pub entry_count : List ℕ → ℕ
entry_count area = count_from (most_entries (head_of area)) 0 (body_of area)

-- a journal: what an area holds, apart from its bytes
pub record Journal : Type 0 where
  pub head : Head
  pub entries : List Entry

unfoldable pub journal_of : List ℕ → Journal
journal_of area = record { head = head_of area; entries = entries_to (entry_count area) (body_of area) }

-- "Kinds 2 standing, 3 withdrawn, 4 held"
abbrev pub standing : List Entry → List Entry
standing es = those is_standing es

abbrev pub withdrawn : List Entry → List Entry
withdrawn es = those is_withdrawn es

-- the standing and withdrawn entries
abbrev pub is_kept : Entry → Bool
is_kept e = is_standing e || is_withdrawn e

abbrev pub kept : List Entry → ℕ
kept es = length (those is_kept es)

abbrev pub slot_if : Bool → Entry → Option Entry → Option Entry
slot_if true e other = Some e
slot_if false e other = other

-- "A held read is the last entry"
unfoldable pub held_of : List Entry → Option Entry
held_of [] = None
held_of (e ∷ es) = slot_if (is_held e) e None

-- whether a read exists
unfoldable pub is_there : Option Entry → Bool
is_there (Some e) = true
is_there None = false

-- the day of a read, and 0 where there is none
unfoldable pub day_of : Option Entry → ℕ
day_of (Some e) = e.day
day_of None = 0

-- the standing read of a day
unfoldable pub on_day : ℕ → List Entry → Option Entry
on_day day [] = None
on_day day (s ∷ ss) = slot_if (eqb s.day day) s (on_day day ss)

-- "flag (1 byte, 1 if rollover, else 0)"
unfoldable pub is_flagged : Entry → Bool
is_flagged e = eqb e.flag 1

-- the value of the first standing read, and 0 where none stands
unfoldable pub first_value : List Entry → ℕ
first_value [] = 0
first_value (s ∷ []) = s.value
first_value (s ∷ t ∷ ss) = first_value (t ∷ ss)

-- the first standing read: in a journal with a carry, the oldest that was kept
unfoldable pub oldest_of : List Entry → Option Entry
oldest_of [] = None
oldest_of (s ∷ []) = Some s
oldest_of (s ∷ t ∷ ss) = oldest_of (t ∷ ss)

-- how many entries come before the last standing one
unfoldable pub newest_at : List Entry → ℕ
newest_at [] = 0
newest_at (e ∷ es) = cond (is_standing e) (length es) (newest_at es)

-- ---- the area that holds a journal: its head, its entries in their order, "then zeros to the end"
unfoldable pub put_entries : List ℕ → Head → List Entry → List ℕ
put_entries area head [] = area
put_entries area head (e ∷ es) = put_entry (put_entries area head es) (offset_after head (length es)) e

unfoldable pub area_for : Journal → List ℕ
area_for j = put_entries (put_head (replicate area_bytes 0) j.head) j.head j.entries
