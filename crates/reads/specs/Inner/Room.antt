-- Which entries can be read at all, for any bytes and any head.
use Rattle.std.specs.Prelude.{Bool, ◌&&◌, List, ℕ, suc, eqb, leb, length, drop, Option, None}
use Rattle.terms.specs.declared.entry.Entry.{Entry}
use Rattle.register.specs.Area.{area_bytes}
use Rattle.register.specs.declared.head.Head.{Head}
use Rattle.register.specs.Entries.{entry_start, entry_at}
use Rattle.register.specs.Head.{head_bytes, most_entries}
use Rattle.journal.specs.Journal.{slot_if}

-- an area, and no more entries after its head than may follow it
unfoldable pub has_room : List ℕ → Head → ℕ → Bool
has_room area head m = eqb (length area) area_bytes && leb m (most_entries head)

-- the entry after k others
unfoldable pub slot_in : List ℕ → Head → ℕ → Option Entry
slot_in area head k = slot_if (has_room area head (suc k)) (entry_at (drop (head_bytes head) area) (entry_start k)) None
