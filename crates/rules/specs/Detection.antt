-- 01, Detection. R1 and D1 are the submitted value and day; R0, R-1 and R-2 stand in the slots of `Recent`, with D0 and D-1 their days.
use Rattle.std.specs.Prelude.{Bool, true, false, ◌&&◌, cond, ℕ, ◌-◌, ◌*◌, eqb, leb, ltb, ℤ, pos, neg_ℤ, ◌-ℤ◌, ◌*ℤ◌, Option, Some, None}
use Rattle.std.specs.Int.Signed.{lt_z}
use Rattle.arithmetic.specs.Powers.{ten_to}
use Rattle.arithmetic.specs.Advance.{advance_of}
use Rattle.terms.specs.declared.entry.Entry.{Entry}
use Rattle.terms.specs.declared.entry.Recent.{Recent}
use Rattle.terms.specs.declared.submission.Submission.{Submission}
use Rattle.rules.specs.declared.detection.Detected.{Detected}
use Rattle.rules.specs.declared.detection.Detected.TheVariants.{NotRollover, Rollover, Indeterminate}
use Rattle.rules.specs.Settings.{step_back, high_mark, low_mark, least_percent, most_percent, whole_percent, fraction}

-- "Plain" is flag 0
unfoldable pub is_plain : Entry → Bool
is_plain e = eqb e.flag 0

-- k × a × (later − earlier): an advance a scaled for a comparison of daily rates, multiplied out and never divided
unfoldable pub scaled_of : ℕ → ℤ → ℕ → ℕ → ℤ
scaled_of k a later earlier = pos k *ℤ a *ℤ (pos later -ℤ pos earlier)

-- A0 = 10^n + R1 − R0: the advance with flag 1
abbrev pub turned_advance : ℕ → Submission → Entry → ℤ
turned_advance n s r0 = advance_of n s.value 1 r0.value

-- A = R0 − R-1: the advance with flag 0
abbrev pub plain_advance : ℕ → Entry → Entry → ℤ
plain_advance n newer older = advance_of n newer.value 0 older.value

-- "Not a Rollover: no R0, or R1 − R0 > −1000.", with the limit of the dials in the place of 1000
unfoldable pub is_small_step : ℕ → Submission → Entry → Bool
is_small_step n s r0 = lt_z (neg_ℤ (pos (step_back n))) (advance_of n s.value 0 r0.value)

unfoldable pub is_not_rollover : ℕ → Submission → Option Entry → Bool
is_not_rollover n s (Some r0) = is_small_step n s r0
is_not_rollover n s None = true

-- "(1) R0 plain, R0 ≥ 90 × 10^(n−2), R1 < 10 × 10^(n−2)."
unfoldable pub is_near_turn : ℕ → Submission → Entry → Bool
is_near_turn n s r0 =
    is_plain r0 && (leb (high_mark * ten_to (n - 2)) r0.value && ltb s.value (low_mark * ten_to (n - 2)))

abbrev is_between : ℤ → ℤ → ℤ → Bool
is_between least a most = lt_z least a && lt_z a most

-- "(2) R-1 and R0 plain and, with A0 = 10^n + R1 − R0 and A = R0 − R-1:
-- 20 × A × (D1 − D0) < 100 × A0 × (D0 − D-1) < 200 × A × (D1 − D0)."
unfoldable pub is_like_rate : ℕ → Submission → Entry → Entry → Bool
is_like_rate n s r0 r_1 =
    (is_plain r_1 && is_plain r0)
    && is_between
    (scaled_of least_percent (plain_advance n r0 r_1) s.day r0.day)
    (scaled_of whole_percent (turned_advance n s r0) r0.day r_1.day)
    (scaled_of most_percent (plain_advance n r0 r_1) s.day r0.day)

-- ten times an advance is below 10^n
unfoldable pub is_small_part : ℕ → ℤ → Bool
is_small_part n a = lt_z (pos fraction *ℤ a) (pos (ten_to n))

-- "(3) R0 plain, 10 × A0 < 10^n."
unfoldable pub is_small_turn : ℕ → Submission → Entry → Bool
is_small_turn n s r0 = is_plain r0 && is_small_part n (turned_advance n s r0)

-- "(4) R-1 and R0 plain, 10 × A < 10^n. (5) R-2 and R-1 plain, 10 × (R-1 − R-2) < 10^n."
unfoldable pub is_small_advance : ℕ → Entry → Entry → Bool
is_small_advance n newer older = (is_plain older && is_plain newer) && is_small_part n (plain_advance n newer older)

-- "Rollover: all five tests." "A test whose reads don't exist fails."
unfoldable pub is_rollover : ℕ → Submission → Recent → Bool
is_rollover n s recent = all_five recent.last recent.second recent.third
  where
    all_five : Option Entry → Option Entry → Option Entry → Bool
    all_five (Some r0) (Some r_1) (Some r_2) =
        is_near_turn n s r0
        && (is_like_rate n s r0 r_1 && (is_small_turn n s r0 && (is_small_advance n r0 r_1 && is_small_advance n r_1 r_2)))
    all_five (Some r0) (Some r_1) None = false
    all_five (Some r0) None r = false
    all_five None q r = false

-- Not a Rollover is "decided first"; "Otherwise Indeterminate."
unfoldable pub detected : ℕ → Submission → Recent → Detected
detected n s recent =
    cond (is_not_rollover n s recent.last)
    NotRollover
    (cond (is_rollover n s recent) Rollover Indeterminate)
