-- 01, Calls: what the table of numbers says of each refusal, and of an answer that may be one.
use Rattle.std.specs.Prelude.{ℕ, Result, Ok, Err}
use Rattle.terms.specs.declared.refusal.Refusal.{Refusal}
use Rattle.terms.specs.declared.refusal.Refusal.TheVariants as r
use Rattle.terms.specs.Number.{accepted, repeat, misfit, no_meter, damaged, missing, content, date, withdrawn_read, read_at, read_eh, read_bf, back_dated, read_df, indicator_on_opening, no_original, full, read_ee, read_ef, low, high, over_capacity, not_standing, not_last, enrolled, plate, sheet_fault, no_fold, oldest_kept, other_type}

-- the number of a refusal
unfoldable pub number_of : Refusal → ℕ
number_of r.Repeat = repeat
number_of r.Misfit = misfit
number_of r.NoMeter = no_meter
number_of r.Damaged = damaged
number_of r.Missing = missing
number_of r.Content = content
number_of r.Date = date
number_of r.Withdrawn = withdrawn_read
number_of r.At = read_at
number_of r.Eh = read_eh
number_of r.Bf = read_bf
number_of r.BackDated = back_dated
number_of r.Df = read_df
number_of r.IndicatorOnOpening = indicator_on_opening
number_of r.NoOriginal = no_original
number_of r.Full = full
number_of r.Ee = read_ee
number_of r.Ef = read_ef
number_of r.Low = low
number_of r.High = high
number_of r.Capacity = over_capacity
number_of r.NotStanding = not_standing
number_of r.NotLast = not_last
number_of r.Enrolled = enrolled
number_of r.Plate = plate
number_of r.Sheet = sheet_fault
number_of r.NoFold = no_fold
number_of r.OldestKept = oldest_kept
number_of r.OtherType = other_type

-- the number of an answer: "0 | accepted", and else that of its refusal
abbrev pub number_in : {A : Type 0} → Result A Refusal → ℕ
number_in (Ok a) = accepted
number_in (Err refusal) = number_of refusal
