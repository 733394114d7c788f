-- What an area is, with what is counted of a sound one's entries.
use Rattle.std.specs.Prelude.{◌≡◌, Bool, true, not, ◌&&◌, cond, List, ℕ, eqb, length, drop, Option, Some, None, Result, Ok, Err}
use Rattle.arithmetic.specs.Powers.{ten_to}
use Rattle.terms.specs.declared.entry.Entry.{Entry}
use Rattle.terms.specs.Entry.{those, slot_at}
use Rattle.register.specs.Area.{area_bytes, all_zero}
use Rattle.register.specs.declared.head.Head.{Head}
use Rattle.register.specs.Entries.{entry_start}
use Rattle.register.specs.Head.{most_entries}
use Rattle.judge.specs.declared.area.Counts.{Counts}
use Rattle.judge.specs.declared.area.Summary.{Summary}
use Rattle.terms.specs.declared.refusal.Refusal.{Refusal}
use Rattle.terms.specs.declared.refusal.Refusal.TheVariants.{NoMeter, Damaged}
use Rattle.journal.specs.Journal.{Journal, journal_of, entries_to, count_from, standing, kept, is_flagged, first_value, newest_at}
use Rattle.journal.specs.Sound.{is_sound, are_sound, any, is_final_read}
use Rattle.judge.specs.Inner.Run.{last_day}

-- the value of a read, and 0 where there is none
unfoldable pub value_of : Option Entry → ℕ
value_of (Some e) = e.value
value_of None = 0

unfoldable pub counts_of : List Entry → Counts
counts_of es =
    record {
      kept = kept es;
      standing = length (standing es);
      flagged = length (those is_flagged (standing es));
      first = first_value (standing es);
      newest = newest_at es;
    }

unfoldable pub summary_of : Journal → Summary
summary_of j =
    record {
      head = j.head;
      counts = counts_of j.entries;
      last = value_of (slot_at (standing j.entries) 0);
      day = last_day j.entries;
      limit = ten_to j.head.dials;
      entries = length j.entries;
      ended = any is_final_read (standing j.entries);
    }

-- an area is sound, or all zero or damaged; what is lent as one and is not 512 bytes long is no journal
unfoldable pub judged : List ℕ → Result Summary Refusal
judged area =
    cond (not (eqb (length area) area_bytes))
    (Err Damaged)
    (cond (all_zero area) (Err NoMeter) (cond (is_sound area) (Ok (summary_of (journal_of area))) (Err Damaged)))

-- a body that follows a head: how many entries it has, and whether they are sound and zeros follow them
abbrev pub count_in : Head → List ℕ → ℕ
count_in head body = count_from (most_entries head) 0 body

unfoldable pub is_whole : Head → List ℕ → Bool
is_whole head body =
    all_zero (drop (entry_start (count_in head body)) body)
    && are_sound head (entries_to (count_in head body) body)

unfoldable pub judged_body : Head → List ℕ → Result Summary Refusal
judged_body head body =
    cond (is_whole head body)
    (Ok (summary_of (record { head = head; entries = entries_to (count_in head body) body })))
    (Err Damaged)

-- an area is sound, and this is what was counted of it
pub record Counted (area : List ℕ) (t : Summary) : Type 0 where
  pub long : length area ≡ area_bytes
  pub sound : is_sound area ≡ true
  pub summary : t ≡ summary_of (journal_of area)
