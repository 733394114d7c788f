-- 01, Pairs at an edge: those marked P, as one table under one claim. "Four dials; spacing 180 days where it counts." After
-- them, for 02, 5, rows of detection on three dials.
use Rattle.std.specs.Prelude.{◌≡◌, Bool, true, false, ◌&&◌, cond, List, [], ◌∷◌, ℕ, ◌+◌, ◌*◌, eqb, length, Result}
use Rattle.terms.specs.declared.entry.Entry.{Entry}
use Rattle.terms.specs.declared.entry.Recent.{Recent}
use Rattle.terms.specs.declared.submission.Submission.{Submission}
use Rattle.terms.specs.Entry.{recent_of, kind_standing, indicator_not_set}
use Rattle.terms.specs.Letter.{letter_c}
use Rattle.terms.specs.declared.refusal.Refusal.{Refusal}
use Rattle.terms.specs.Number.{accepted, read_ef, low, high, over_capacity}
use Rattle.rules.specs.declared.detection.Detected.{Detected}
use Rattle.rules.specs.declared.detection.Detected.TheVariants.{NotRollover, Rollover, Indeterminate}
use Rattle.rules.specs.Detection.{detected}
use Rattle.rules.specs.Indicator.{indicated, indicated_number, indicated_flag}
use Rattle.rules.specs.Volume.{volume_number}

-- a standing read by its value and flag
pub record Stood : Type 0 where
  pub value : ℕ
  pub flag : ℕ

abbrev pub stood : ℕ → ℕ → Stood
stood value flag = record { value = value; flag = flag }

-- values of plain reads
unfoldable pub plain : List ℕ → List Stood
plain [] = []
plain (value ∷ values) = stood value 0 ∷ plain values

-- a cyclic read with the indicator not set, submitted after the standing ones, the newest first, of which the oldest is of the day first; and what
-- the rules say of it
pub record Edge : Type 0 where
  pub dials : ℕ
  pub first : ℕ
  pub spacing : ℕ
  pub capacity : ℕ
  pub standing : List Stood
  pub submitted : ℕ
  pub says : Detected
  pub number : ℕ

-- the spacing where it counts, and the largest capacity, so that detection and threshold decide
abbrev pub half_year : ℕ
half_year = 180

abbrev pub ample : ℕ
ample = 4294967295

abbrev pub edge_after : ℕ → List Stood → ℕ → Detected → ℕ → Edge
edge_after dials standing submitted says number =
    record {
      dials = dials;
      first = 1;
      spacing = half_year;
      capacity = ample;
      standing = standing;
      submitted = submitted;
      says = says;
      number = number;
    }

abbrev pub edge : ℕ → List ℕ → ℕ → Detected → ℕ → Edge
edge dials standing submitted says number = edge_after dials (plain standing) submitted says number

-- four dials, a capacity, and an advance in the ten days from a day on
abbrev pub in_ten_days : ℕ → ℕ → ℕ → ℕ → Edge
in_ten_days first capacity advance number =
    record {
      dials = 4;
      first = first;
      spacing = 10;
      capacity = capacity;
      standing = plain (1000 ∷ []);
      submitted = 1000 + advance;
      says = NotRollover;
      number = number;
    }

-- the days on which 2000, a leap year, and 2001 and 2100, which are none, begin
abbrev pub from_2000 : ℕ
from_2000 = 1

abbrev pub from_2001 : ℕ
from_2001 = 367

abbrev pub from_2100 : ℕ
from_2100 = 36526

-- ten days before the last day of 2000 and before the first of 2001
abbrev pub to_december31 : ℕ
to_december31 = 356

abbrev pub to_january1 : ℕ
to_january1 = 357

unfoldable pub edges : List Edge
edges =
    edge 4 (5000 ∷ []) 4001 NotRollover accepted
    ∷ edge 4 (5000 ∷ []) 4000 Indeterminate read_ef
    ∷ edge 4 (9800 ∷ 9600 ∷ 9400 ∷ []) 50 Rollover accepted
    ∷ edge 4 (9800 ∷ 9600 ∷ []) 50 Indeterminate read_ef
    ∷ edge 4 (9800 ∷ 9600 ∷ 9400 ∷ []) 199 Rollover accepted
    ∷ edge 4 (9800 ∷ 9600 ∷ 9400 ∷ []) 200 Indeterminate read_ef
    ∷ edge 4 (1200 ∷ 1000 ∷ []) 1240 NotRollover accepted
    ∷ edge 4 (1200 ∷ 1000 ∷ []) 1239 NotRollover low
    ∷ edge 4 (1200 ∷ 1000 ∷ []) 1600 NotRollover accepted
    ∷ edge 4 (1200 ∷ 1000 ∷ []) 1601 NotRollover high
    ∷ in_ten_days from_2001 365 9 accepted
    ∷ in_ten_days from_2001 365 10 over_capacity
    -- 02, 5: "The limit is −100 for three dials"
    ∷ edge 3 (500 ∷ []) 401 NotRollover accepted
    ∷ edge 3 (500 ∷ []) 400 Indeterminate read_ef
    -- (2) on three dials: with A of 20 an A0 of 39 is below the most percentage, 40 is not
    ∷ edge 3 (980 ∷ 960 ∷ 940 ∷ []) 19 Rollover accepted
    ∷ edge 3 (980 ∷ 960 ∷ 940 ∷ []) 20 Indeterminate read_ef
    -- without R-2
    ∷ edge 3 (980 ∷ 960 ∷ []) 19 Indeterminate read_ef
    ∷ []

-- ---- more edges of the same rules, which none of these shows
unfoldable pub more_edges : List Edge
more_edges =
    -- (2) "20 × A × (D1 − D0) < 100 × A0 × (D0 − D-1)": with A of 500 an A0 of 101 is above the least percentage, 100 is not
    edge 4 (9900 ∷ 9400 ∷ 8900 ∷ []) 1 Rollover accepted
    ∷ edge 4 (9900 ∷ 9400 ∷ 8900 ∷ []) 0 Indeterminate read_ef
    -- (3) "10 × A0 < 10^n": A0 of 999 and of 1000
    ∷ edge 4 (9500 ∷ 8600 ∷ 7700 ∷ []) 499 Rollover accepted
    ∷ edge 4 (9500 ∷ 8600 ∷ 7700 ∷ []) 500 Indeterminate read_ef
    -- (4) "10 × A < 10^n": A of 999 and of 1000
    ∷ edge 4 (9800 ∷ 8801 ∷ 8700 ∷ []) 50 Rollover accepted
    ∷ edge 4 (9800 ∷ 8800 ∷ 8700 ∷ []) 50 Indeterminate read_ef
    -- (5) "10 × (R-1 − R-2) < 10^n": R-1 − R-2 of 999 and of 1000
    ∷ edge 4 (9800 ∷ 9600 ∷ 8601 ∷ []) 50 Rollover accepted
    ∷ edge 4 (9800 ∷ 9600 ∷ 8600 ∷ []) 50 Indeterminate read_ef
    -- "R0 plain", "R-1 and R0 plain", "R-2 and R-1 plain"
    ∷ edge_after 4 (stood 9800 1 ∷ plain (9600 ∷ 9400 ∷ [])) 50 Indeterminate read_ef
    ∷ edge_after 4 (stood 9800 0 ∷ stood 9600 1 ∷ stood 9400 0 ∷ []) 50 Indeterminate read_ef
    ∷ edge_after 4 (stood 9800 0 ∷ stood 9600 0 ∷ stood 9400 1 ∷ []) 50 Indeterminate read_ef
    -- "If that exists and p > 0": p of 1 is compared, p of 0 and of −10 is not
    ∷ edge 4 (1001 ∷ 1000 ∷ []) 1004 NotRollover high
    ∷ edge 4 (1000 ∷ 1000 ∷ []) 1001 NotRollover accepted
    ∷ edge 4 (990 ∷ 1000 ∷ []) 991 NotRollover accepted
    -- "a × 365 < capacity × d", and 366 "where the read's day falls in a calendar leap year": 10 in ten days is below 366 a year in 2001, and is
    -- not in 2000
    ∷ in_ten_days from_2000 366 9 accepted
    ∷ in_ten_days from_2000 366 10 over_capacity
    ∷ in_ten_days from_2001 366 10 accepted
    -- it is the day of the read that counts, not that of the one before it: reads of 31 December 2000 and of 1 January 2001
    ∷ in_ten_days to_december31 366 10 over_capacity
    ∷ in_ten_days to_january1 366 10 accepted
    -- 02, 5: "and −1000 otherwise"; and a turn of nine dials, the most, where 10^n is largest
    ∷ edge 5 (5000 ∷ []) 4001 NotRollover accepted
    ∷ edge 5 (5000 ∷ []) 4000 Indeterminate read_ef
    ∷ edge 6 (5000 ∷ []) 4001 NotRollover accepted
    ∷ edge 6 (5000 ∷ []) 4000 Indeterminate read_ef
    ∷ edge 7 (5000 ∷ []) 4001 NotRollover accepted
    ∷ edge 7 (5000 ∷ []) 4000 Indeterminate read_ef
    ∷ edge 8 (5000 ∷ []) 4001 NotRollover accepted
    ∷ edge 8 (5000 ∷ []) 4000 Indeterminate read_ef
    ∷ edge 9 (5000 ∷ []) 4001 NotRollover accepted
    ∷ edge 9 (5000 ∷ []) 4000 Indeterminate read_ef
    ∷ edge 9 (980000000 ∷ 960000000 ∷ 940000000 ∷ []) 19999999 Rollover accepted
    ∷ edge 9 (980000000 ∷ 960000000 ∷ 940000000 ∷ []) 20000000 Indeterminate read_ef
    ∷ []

-- 2100 is no leap year, though four divides it. Its row is a table by itself: there the year is had from the table of years, and no days are
-- counted.
unfoldable pub edges_of2100 : List Edge
edges_of2100 = in_ten_days from_2100 366 10 accepted ∷ []

-- the standing reads of a row
unfoldable pub standing_reads : ℕ → ℕ → List Stood → List Entry
standing_reads first spacing [] = []
standing_reads first spacing (r ∷ rs) =
    record {
      kind = kind_standing;
      day = first + spacing * length rs;
      value = r.value;
      letter = letter_c;
      indicator = indicator_not_set;
      flag = r.flag;
    }
    ∷ standing_reads first spacing rs

-- the read that a row submits. It is sent a year late: no rule minds, and one that took the day of sending for the read's would not hold
unfoldable pub submitted_read : Edge → Submission
submitted_read e =
    record {
      submitted = e.first + e.spacing * length e.standing + 366;
      day = e.first + e.spacing * length e.standing;
      value = e.submitted;
      letter = letter_c;
      indicator = indicator_not_set;
      reread = 0;
    }

unfoldable pub detected_at : Edge → Detected
detected_at e = detected e.dials (submitted_read e) (recent_of (standing_reads e.first e.spacing e.standing))

-- the number that detection, indicator and volume give, in this order
unfoldable pub number_at : Edge → ℕ
number_at e = cond (eqb (indicated_number taken) accepted) (volume_number e.dials e.capacity (submitted_read e) (indicated_flag taken) recent) (indicated_number taken)
  where
    taken : Result ℕ Refusal
    taken = indicated (detected_at e) indicator_not_set

    recent : Recent
    recent = recent_of (standing_reads e.first e.spacing e.standing)

abbrev pub is_same_finding : Detected → Detected → Bool
is_same_finding NotRollover NotRollover = true
is_same_finding NotRollover Rollover = false
is_same_finding NotRollover Indeterminate = false
is_same_finding Rollover NotRollover = false
is_same_finding Rollover Rollover = true
is_same_finding Rollover Indeterminate = false
is_same_finding Indeterminate NotRollover = false
is_same_finding Indeterminate Rollover = false
is_same_finding Indeterminate Indeterminate = true

unfoldable pub holds_at : Edge → Bool
holds_at e = is_same_finding (detected_at e) e.says && eqb (number_at e) e.number

unfoldable pub hold_at : List Edge → Bool
hold_at [] = true
hold_at (e ∷ es) = holds_at e && hold_at es

-- THE CLAIM: every row of the three tables holds
unfoldable pub EdgesHold : Type 0
EdgesHold = (hold_at edges ≡ true) × (hold_at more_edges ≡ true) × (hold_at edges_of2100 ≡ true)
