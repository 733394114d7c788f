-- The tally that a journal has: that of a sound area may be kept, and a report from it is a report of the area.
use mathlib.Core.Path.{◌≡◌, refl, ◌∙◌}
use mathlib.Core.Bool.{true, not, ◌||◌}
use mathlib.Core.List.{List, [], ◌∷◌}
use Prim.Native.Nat.{ℕ, ◌≤◌, ◌<◌}
use native.Mathlib.Nat.{one-le-pow}
use native.Mathlib.Omega.{arith}
use borrow.Author.Tests.{leb-true, ltb-true}
use lib.Dec.{eqb, leb}
use Rattle.arithmetic.specs.Powers.{ten_to}
use Rattle.arithmetic.proofs.Laws.{in_table, advance_plain}
use Rattle.terms.specs.declared.entry.Entry.{Entry}
use Rattle.terms.specs.Entry.{is_standing, is_withdrawn, is_held, slot_at}
use Rattle.terms.specs.Number.{accepted}
use Rattle.register.specs.declared.head.Head.{Head}
use Rattle.register.specs.Area.{all_zero}
use Rattle.register.specs.Head.{head_of}
use Rattle.journal.specs.Journal.{journal_of, day_of, first_value}
use Rattle.journal.specs.Numbers.{area_rules}
use Rattle.journal.specs.Sound.{every, least_dials, most_dials, is_plate, holds, is_in_range, is_read, is_sound}
use Rattle.journal.specs.Total.{standing_in, flagged_in, first_in, total_of, report_of}
use Rattle.calls.specs.declared.call.Reply.TheVariants.{Reported}
use Rattle.calls.specs.Checks.{report_checks}
use Rattle.calls.specs.Calls.{report_in}
use Rattle.calls.proofs.Bools.{both, by_test}
use Rattle.calls.proofs.Lists.{every_those}
use Rattle.calls.proofs.Carried.{carries}
use Rattle.calls.proofs.Clauses.{Clauses, clauses_of}
use Rattle.calls.proofs.Shape.{sounds, plate_of_lem}
use Rattle.calls.proofs.Days.{few_standing, few_flagged}
use Rattle.calls.proofs.Totals.{Bare, flagged_none, first_bare, flagged_bare}
use Rattle.calls.proofs.Effects.{standing_reads, meter_head}
use Rattle.calls.proofs.Known.{effects}
use Rattle.calls.proofs.ReportKept.{sound_report}
use Rattle.tally.specs.declared.tally.Tally.{Tally}
use Rattle.tally.specs.Tally.{tallied, zero_tally, is_zero, tally_number, tally_total, tally_report}
use Rattle.tally.specs.Kept.{most_day}
use Rattle.tally.proofs.Fits.{Fits}
use Rattle.tally.proofs.FitNumbers.{fits_number}

-- the value of the last of some reads, and 0 where there is none
unfoldable pub last_value : List Entry → ℕ
last_value [] = 0
last_value (s ∷ ss) = s.value

-- the tally of a head and its standing reads, with those that were folded
abbrev pub tally_of : Head → List Entry → Tally
tally_of head ss = tallied head.dials (standing_in head ss) (flagged_in head ss) (first_in head ss) (last_value ss)

-- the tally of an area's journal
abbrev pub area_tally : List ℕ → Tally
area_tally area = tally_of (meter_head area) (standing_reads area)

-- the day of an area's last standing read, and 0 where there is none
abbrev pub last_day : List ℕ → ℕ
last_day area = day_of (slot_at (standing_reads area) 0)

-- ---- no read stands, and nothing is carried: both values are 0, and none is flagged
module _ (head : Head) (bare : Bare head) where
  pub none_first : first_in head [] ≡ 0
  unfolding first_value
  none_first = first_bare head [] bare

  pub none_flagged : flagged_in head [] ≡ 0
  none_flagged = flagged_bare head [] bare ∙ flagged_none

none_stands : (head : Head) (ss : List Entry) → (ss ≡ [] → Bare head) → standing_in head ss ≡ 0 → (first_in head ss ≡ 0) × (last_value ss ≡ 0)
unfolding standing_in last_value
none_stands head [] bare none = (none_first head (bare refl), refl)
none_stands head (s ∷ ss) bare none = absurd (omega arith)

-- the total is that of the journal
total_same : (head : Head) (ss : List Entry) → (ss ≡ [] → Bare head) → tally_total (tally_of head ss) ≡ total_of head ss
unfolding tally_total total_of last_value
total_same head [] bare = rw (none_first head (bare refl), none_flagged head (bare refl)) (advance_plain head.dials 0 0)
total_same head (s ∷ ss) bare = refl

-- ---- the values of reads are shown by the dials
read_shown : (head : Head) (e : Entry) → is_read head e ≡ true → e.value < ten_to head.dials
unfolding is_read is_in_range holds
read_shown head e h =
    let range = (both (is_standing e || (is_withdrawn e || is_held e)) (is_in_range head e) h).1 in
    let dated = (both (not (eqb e.day 0)) _ range).1 in
    ltb-true e.value (ten_to head.dials) (both (holds head e.value) _ dated).0

module _ (head : Head) (some : 0 < ten_to head.dials) where
  first_read_shown : (ss : List Entry) → every (is_read head) ss ≡ true → first_value ss < ten_to head.dials
  unfolding every first_value
  first_read_shown [] h = some
  first_read_shown (s ∷ []) h = read_shown head s (both (is_read head s) _ h).0
  first_read_shown (s ∷ t ∷ ss) h = first_read_shown (t ∷ ss) (both (is_read head s) _ h).1

  last_read_shown : (ss : List Entry) → every (is_read head) ss ≡ true → last_value ss < ten_to head.dials
  unfolding every last_value
  last_read_shown [] h = some
  last_read_shown (s ∷ ss) h = read_shown head s (both (is_read head s) _ h).0

-- ---- the tally of a sound area
module _ (area : List ℕ) (sound : is_sound area ≡ true) where
  abbrev head : Head
  head = meter_head area

  abbrev ss : List Entry
  ss = standing_reads area

  clauses : Clauses head (journal_of area).entries
  unfolding journal_of
  clauses = clauses_of (head_of area) (journal_of area).entries (sounds area sound).sound

  reads : every (is_read head) ss ≡ true
  reads = every_those (is_read head) is_standing (journal_of area).entries clauses.reads

  dials_in_range : (least_dials ≤ head.dials) × (head.dials ≤ most_dials)
  unfolding is_plate journal_of
  dials_in_range =
      let least = both (leb least_dials head.dials) _ (plate_of_lem area (sounds area sound).head) in
      let most = both (leb head.dials most_dials) _ least.1 in
      (leb-true _ _ least.0, leb-true _ _ most.0)

  -- the dials show some value, 0 at least
  some_shown : 0 < ten_to head.dials
  some_shown = let few : head.dials < 10 = omega (arith, dials_in_range.1) in rw (in_table few) (one-le-pow head.dials 10 (omega arith))

  -- the first value is that of the carry where there is one
  first_shown : first_in head ss < ten_to head.dials
  unfolding first_in holds
  first_shown =
      by_test head.carried
      (λ t. rw t (ltb-true _ _ (carries head ss clauses.carry t).small))
      (λ t. rw t (first_read_shown head some_shown ss reads))

  pub none_bare : ss ≡ [] → Bare head
  none_bare none =
      let uncarried = effects.carried area sound none in
      record { uncarried = uncarried; none = effects.bare area uncarried }

  fits : last_day area ≤ most_day → Fits (area_tally area)
  fits dated =
      record {
        least = dials_in_range.0;
        most = dials_in_range.1;
        first_shown = first_shown;
        last_shown = last_read_shown head some_shown ss reads;
        none = none_stands head ss none_bare;
        fewer = few_flagged area sound;
        few = omega (arith, few_standing area sound, dated);
      }

  pub sound_number : last_day area ≤ most_day → tally_number (area_tally area) ≡ accepted
  sound_number dated = fits_number (area_tally area) (fits dated)

  pub sound_tally_report : last_day area ≤ most_day → Reported (tally_report (area_tally area)) ≡ (report_in area).reply
  unfolding tally_report report_of
  sound_tally_report dated = rw (sound_report area sound, sound_number dated, total_same head ss none_bare)

-- ---- an area of zeros, and a tally of zeros
pub zero_report : (area : List ℕ) → all_zero area ≡ true → Reported (tally_report zero_tally) ≡ (report_in area).reply
unfolding tally_report tally_number is_zero report_in report_checks area_rules
zero_report area zero = rw zero
