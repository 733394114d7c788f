-- Every example computes to what it says.
use mathlib.Core.Path.{refl}
use Rattle.calendar.specs.Year.{is_leap, year_length}
use Rattle.calendar.specs.Month.{has_thirty, length_in, month_length}
use Rattle.calendar.specs.Date.{is_in_calendar, next, after, date_of}
use Rattle.calendar.proofs.claims.calendar_examples_hold.Goals as goal

pub returns : goal.returns
unfolding is_leap year_length has_thirty length_in month_length is_in_calendar next after date_of
returns c =
    record {
      common_months = refl;
      leap_months = refl;
      year_2000 = refl;
      year_2001 = refl;
      year_2002 = refl;
      year_2003 = refl;
      year_2004 = refl;
      year_2096 = refl;
      year_2100 = refl;
      year_2104 = refl;
      leap_days = refl;
      common_days = refl;
      april_0 = refl;
      april_1 = refl;
      april_30 = refl;
      april_31 = refl;
      leap_february_29 = refl;
      leap_february_30 = refl;
      common_february_29 = refl;
      month_0 = refl;
      month_12 = refl;
      month_13 = refl;
      day_60 = refl;
      day_61 = refl;
      day_182 = refl;
      day_183 = refl;
      day_366 = refl;
      day_0 = refl;
      day_65536 = refl;
    }
