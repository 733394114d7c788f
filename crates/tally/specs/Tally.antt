-- 02, 6, A standing tally: "The caller keeps a small tally (dials, standing, flagged, first value, last value)". When it is one that may be
-- kept, and what it reports.
use Rattle.std.specs.Prelude.{Bool, not, ◌&&◌, ◌||◌, cond, [], ◌∷◌, ℕ, eqb, leb, ltb, ℤ}
use Rattle.arithmetic.specs.Powers.{ten_to}
use Rattle.arithmetic.specs.Advance.{advance_of}
use Rattle.terms.specs.declared.answer.Report.{Report}
use Rattle.terms.specs.Answer.{reported, refused_report}
use Rattle.terms.specs.Number.{accepted, no_meter, damaged}
use Rattle.terms.specs.Rule.{rule, first_broken}
use Rattle.journal.specs.Sound.{least_dials, most_dials}
use Rattle.tally.specs.declared.tally.Tally.{Tally}

abbrev pub tallied : ℕ → ℕ → ℕ → ℕ → ℕ → Tally
tallied dials standing flagged first last =
    record { dials = dials; standing = standing; flagged = flagged; first = first; last = last }

-- "An all-zero tally"
abbrev pub zero_tally : Tally
zero_tally = tallied 0 0 0 0 0

unfoldable pub is_zero : Tally → Bool
is_zero t =
    eqb t.dials 0
    && (eqb t.standing 0 && (eqb t.flagged 0 && (eqb t.first 0 && eqb t.last 0)))

-- ---- "Any other with dials not 3 to 9, a value not below 10^n or not 0 where none stands, flagged above standing or standing above 65,535
-- reports 4"
unfoldable pub has_other_dials : Tally → Bool
has_other_dials t = ltb t.dials least_dials || ltb most_dials t.dials

-- of the first value or of the last: it is "not below 10^n or not 0 where none stands"
unfoldable pub is_no_value : Tally → ℕ → Bool
is_no_value t value = leb (ten_to t.dials) value || eqb t.standing 0 && not (eqb value 0)

abbrev pub most_standing : ℕ
most_standing = 65535

unfoldable pub is_broken : Tally → Bool
is_broken t =
    has_other_dials t
    || (is_no_value t t.first
    || (is_no_value t t.last || (ltb t.standing t.flagged || ltb most_standing t.standing)))

-- "An all-zero tally reports 3", a broken one 4, and any other 0
unfoldable pub tally_number : Tally → ℕ
tally_number t = first_broken (rule no_meter (is_zero t) ∷ rule damaged (is_broken t) ∷ [])

-- ---- "a report from it": 01, "total: last − first + 10^n × flagged, 0 if none stands". Where none stands all three are 0.
unfoldable pub tally_total : Tally → ℤ
tally_total t = advance_of t.dials t.last t.flagged t.first

unfoldable pub tally_report : Tally → Report
tally_report t =
    cond (eqb (tally_number t) accepted)
    (reported accepted t.standing t.flagged (tally_total t))
    (refused_report (tally_number t))
