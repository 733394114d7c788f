-- Every row of the tables computes to true, the year of a day by counting to it. To 2100 the count is long, so there the year is had from the
-- day on which it starts.
use mathlib.Core.Path.{◌≡◌, refl}
use mathlib.Core.Bool.{true}
use lib.Dec.{lit<, lit≤}
use Rattle.calendar.specs.Year.{is_leap, year_length, year_start}
use Rattle.calendar.specs.Month.{has_thirty, length_in, month_length}
use Rattle.calendar.specs.Date.{next, after, date_of}
use Rattle.calendar.specs.Inner.Placed.{YearAt}
use Rattle.calendar.proofs.Dates.{year_at_date}
use Rattle.arithmetic.specs.Powers.{ten_to}
use Rattle.arithmetic.specs.Advance.{advance_of}
use Rattle.terms.specs.Refusal.{number_of}
use Rattle.terms.specs.Entry.{slot_at, recent_of}
use Rattle.terms.specs.Letter.{is_unchecked}
use Rattle.rules.specs.Settings.{step_back}
use Rattle.rules.specs.Detection.{is_plain, scaled_of, is_small_step, is_not_rollover, is_near_turn, is_like_rate, is_small_part, is_small_turn, is_small_advance, is_rollover, detected}
use Rattle.rules.specs.Indicator.{indicated, indicated_flag}
use Rattle.rules.specs.Volume.{advance_over, has_volume_check, has_threshold, compared_with, compared, compared_number, days_in_year, is_within_capacity, is_low_volume, is_high_volume, is_over_capacity, volume_number}
use Rattle.rules.specs.Edges.{plain, edges, more_edges, edges_of2100, standing_reads, submitted_read, detected_at, number_at, holds_at, hold_at, EdgesHold}
use Rattle.rules.proofs.edges.edges_hold.Goals as goal

-- ---- the row of 2100, which is the 100th year after 2000

starts_2100 : YearAt 36536 100
unfolding year_start year_length is_leap number_of
starts_2100 = record { held = lit< tt; from = lit≤ tt; to = lit< tt }

year_2100 : (date_of 36536).year ≡ 2100
year_2100 = year_at_date 36536 100 starts_2100 (lit≤ tt)

row_2100 : hold_at edges_of2100 ≡ true
unfolding is_leap year_length ten_to advance_of slot_at recent_of is_unchecked is_plain scaled_of step_back is_small_step is_not_rollover is_near_turn is_like_rate is_small_part is_small_turn is_small_advance is_rollover detected indicated indicated_flag advance_over has_volume_check has_threshold compared_with compared compared_number days_in_year is_within_capacity is_low_volume is_high_volume is_over_capacity volume_number plain edges_of2100 standing_reads submitted_read detected_at number_at holds_at hold_at number_of
row_2100 = rw year_2100

pub returns : goal.returns
unfolding is_leap year_length has_thirty length_in month_length next after date_of ten_to advance_of slot_at recent_of is_unchecked is_plain scaled_of step_back is_small_step is_not_rollover is_near_turn is_like_rate is_small_part is_small_turn is_small_advance is_rollover detected indicated indicated_flag advance_over has_volume_check has_threshold compared_with compared compared_number days_in_year is_within_capacity is_low_volume is_high_volume is_over_capacity volume_number plain edges more_edges standing_reads submitted_read detected_at number_at holds_at hold_at EdgesHold number_of
returns c = (refl, refl, row_2100)
