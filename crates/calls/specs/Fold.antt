-- 02, 2, Fold old reads: what a fold leaves of a journal.
use Rattle.std.specs.Prelude.{Bool, true, ◌&&◌, ◌||◌, List, ℕ, ◌+◌, ◌-◌, leb, ltb, length, drop}
use Rattle.terms.specs.declared.entry.Entry.{Entry}
use Rattle.terms.specs.Entry.{is_standing, is_withdrawn, is_held, those, slot_at}
use Rattle.register.specs.declared.head.Carry.{Carry}
use Rattle.register.specs.declared.head.Head.{Head}
use Rattle.journal.specs.Journal.{Journal, standing, day_of}
use Rattle.journal.specs.Total.{flagged_in, first_in}

-- "A fold (place; sheet kind 5) keeps the last three standing reads."
abbrev pub reads_kept : ℕ
reads_kept = 3

-- the day of the oldest kept read: the third last that stands
unfoldable pub kept_from : List Entry → ℕ
kept_from es = day_of (slot_at (standing es) 2)

-- the entries that stay: these reads, and a held one. "Withdrawn entries dated no later than the oldest kept read go too".
unfoldable pub stays : ℕ → Entry → Bool
stays oldest e = is_held e || (is_standing e && leb oldest e.day || is_withdrawn e && ltb oldest e.day)

-- "first value .., folded reads .., flagged among them .. A later fold adds to it."
unfoldable pub carry_after : Journal → Carry
carry_after j =
    record {
      first = first_in j.head (standing j.entries);
      folded = j.head.carry.folded + (length (standing j.entries) - reads_kept);
      flagged = flagged_in j.head (drop reads_kept (standing j.entries));
    }

unfoldable pub head_after : Journal → Head
head_after j =
    record {
      profile = j.head.profile;
      dials = j.head.dials;
      capacity = j.head.capacity;
      carried = true;
      carry = carry_after j;
    }

-- "Other entries close up in order."
unfoldable pub folded_journal : Journal → Journal
folded_journal j = record { head = head_after j; entries = those (stays (kept_from j.entries)) j.entries }
