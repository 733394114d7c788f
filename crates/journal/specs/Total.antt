-- 01, Calls: what a report counts of a journal. 02, 2: "Report and the sum of the two runs count the carry."
use Rattle.std.specs.Prelude.{cond, List, [], ◌∷◌, ℕ, ◌+◌, ℤ, pos, length}
use Rattle.arithmetic.specs.Advance.{advance_of}
use Rattle.terms.specs.declared.answer.Report.{Report}
use Rattle.terms.specs.declared.entry.Entry.{Entry}
use Rattle.terms.specs.Entry.{those}
use Rattle.terms.specs.Number.{accepted}
use Rattle.register.specs.declared.head.Head.{Head}
use Rattle.journal.specs.Journal.{Journal, standing, is_flagged, first_value}

unfoldable pub flagged_of : List Entry → ℕ
flagged_of ss = length (those is_flagged ss)

-- "standing reads, flagged among them", with those that were folded
unfoldable pub standing_in : Head → List Entry → ℕ
standing_in head ss = head.carry.folded + length ss

unfoldable pub flagged_in : Head → List Entry → ℕ
flagged_in head ss = head.carry.flagged + flagged_of ss

-- the first value: that of the carry where there is one
unfoldable pub first_in : Head → List Entry → ℕ
first_in head ss = cond head.carried head.carry.first (first_value ss)

-- "total: last − first + 10^n × flagged, 0 if none stands"
unfoldable pub total_of : Head → List Entry → ℤ
total_of head [] = pos 0
total_of head (s ∷ ss) = advance_of head.dials s.value (flagged_in head (s ∷ ss)) (first_in head (s ∷ ss))

-- "Report (place) answers number, standing reads, flagged among them, and total"
unfoldable pub report_of : Journal → Report
report_of j =
    record {
      number = accepted;
      standing = standing_in j.head (standing j.entries);
      flagged = flagged_in j.head (standing j.entries);
      total = total_of j.head (standing j.entries);
    }
