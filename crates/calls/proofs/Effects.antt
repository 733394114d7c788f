-- What the calls do to the journal of the area that they name, as the theorem about lists uses it.
use mathlib.Core.Path.{◌≡◌}
use mathlib.Core.Logic.{◌⊎◌}
use mathlib.Core.Bool.{true, false, ◌&&◌, ◌||◌}
use mathlib.Core.List.{List, [], ◌∷◌}
use Prim.Native.Nat.{ℕ, ◌≤◌, ◌<◌}
use lib.Dec.{ltb}
use lib.IntN.{neg_ℤ}
use lib.ListN.{length}
use Rattle.terms.specs.declared.profile.Profile.{Profile}
use Rattle.terms.specs.declared.entry.Entry.{Entry}
use Rattle.terms.specs.declared.submission.Submission.{Submission}
use Rattle.terms.specs.Answer.{answer, acceptance}
use Rattle.terms.specs.Entry.{kind_standing, slot_at}
use Rattle.terms.specs.Number.{accepted}
use Rattle.rules.specs.Volume.{advance_over}
use Rattle.register.specs.Area.{area_bytes, all_zero}
use Rattle.register.specs.declared.head.Head.{Head}
use Rattle.register.specs.Head.{no_carry}
use Rattle.journal.specs.Journal.{journal_of, standing, withdrawn}
use Rattle.journal.specs.Sound.{any, has_read, days_rise, is_sound}
use Rattle.calls.specs.declared.call.Call.{Call}
use Rattle.calls.specs.declared.call.Call.TheVariants.{Enrol, Submit, Withdraw, Report as ReportCall, Fold, Trial}
use Rattle.calls.specs.declared.call.Reply.{Reply}
use Rattle.calls.specs.declared.call.Reply.TheVariants.{Answered}
use Rattle.calls.specs.Checks.{taken_flag}
use Rattle.calls.specs.Calls.{act, entry_for, submitted_advance}
use Rattle.calls.specs.Fold.{kept_from, head_after}
use Rattle.calls.specs.Play.{number_of, may_change}
use Rattle.calls.proofs.Folding.{Four}
use Rattle.calls.proofs.Totals.{IsFlag}

-- the standing and the withdrawn reads of an area
abbrev pub standing_reads : List ℕ → List Entry
standing_reads area = standing (journal_of area).entries

abbrev pub withdrawn_reads : List ℕ → List Entry
withdrawn_reads area = withdrawn (journal_of area).entries

abbrev pub meter_head : List ℕ → Head
meter_head area = (journal_of area).head

-- an accepted enrolment
pub record Enrolled (dials : ℕ) (before after : List ℕ) (reply : Reply) : Type 0 where
  pub zero : all_zero before ≡ true
  pub sound : is_sound after ≡ true
  pub dials_are : (meter_head after).dials ≡ dials
  pub none : standing_reads after ≡ []
  pub replied : reply ≡ Answered acceptance

-- a call that leaves the standing and withdrawn reads: a held read stored
pub record Held (before after : List ℕ) : Type 0 where
  pub was_sound : is_sound before ≡ true
  pub sound : is_sound after ≡ true
  pub same_head : meter_head after ≡ meter_head before
  pub same_standing : standing_reads after ≡ standing_reads before
  pub same_withdrawn : withdrawn_reads after ≡ withdrawn_reads before

-- an accepted submission
pub record Submitted (s : Submission) (before after : List ℕ) (reply : Reply) : Type 0 where
  pub was_sound : is_sound before ≡ true
  pub sound : is_sound after ≡ true
  pub same_head : meter_head after ≡ meter_head before
  pub one_more : standing_reads after ≡ entry_for kind_standing s (taken_flag s (journal_of before)) ∷ standing_reads before
  pub same_withdrawn : withdrawn_reads after ≡ withdrawn_reads before
  pub flag : IsFlag (taken_flag s (journal_of before))
  pub first_flag : standing_reads before ≡ [] → taken_flag s (journal_of before) ≡ 0
  -- it is dated, later than the last standing read, and none of the withdrawn ones
  pub dated : 0 < s.day
  pub later : (r : Entry) (ss : List Entry) → standing_reads before ≡ r ∷ ss → r.day < s.day
  pub fresh : any (has_read s.day s.value) (withdrawn_reads before) ≡ false
  pub replied : reply ≡ Answered (answer accepted (taken_flag s (journal_of before)) (submitted_advance s (journal_of before)))

-- an accepted withdrawal, of the last standing read
pub record Withdrew (day value : ℕ) (before after : List ℕ) (reply : Reply) : Type 0 where
  pub last : Entry
  pub was_sound : is_sound before ≡ true
  pub sound : is_sound after ≡ true
  pub same_head : meter_head after ≡ meter_head before
  pub one_less : standing_reads before ≡ last ∷ standing_reads after
  pub names_it : has_read day value last ≡ true
  pub flag : IsFlag last.flag
  pub first_flag : standing_reads after ≡ [] → last.flag ≡ 0
  pub keeps : (d v : ℕ) → any (has_read d v) (withdrawn_reads before) ≡ true → any (has_read d v) (withdrawn_reads after) ≡ true
  pub has : any (has_read day value) (withdrawn_reads after) ≡ true
  -- it and those before are all that are withdrawn
  pub only : (d v : ℕ) → any (has_read d v) (withdrawn_reads after) ≡ has_read d v last || any (has_read d v) (withdrawn_reads before)
  pub replied : reply ≡ Answered (answer accepted last.flag (neg_ℤ (advance_over (meter_head before).dials last.value last.flag (slot_at (standing_reads after) 0))))

-- an accepted fold
pub record Folded (before after : List ℕ) : Type 0 where
  pub was_sound : is_sound before ≡ true
  pub sound : is_sound after ≡ true
  pub head_is : meter_head after ≡ head_after (journal_of before)
  -- at least four stood, and the last three stand
  pub stood : Four (standing_reads before)
  pub stand : standing_reads after ≡ stood.newest ∷ stood.second ∷ stood.third ∷ []
  -- a withdrawn entry that is gone is no later than the oldest of them
  pub gone : (d v : ℕ) → any (has_read d v) (withdrawn_reads before) ≡ true → (any (has_read d v) (withdrawn_reads after) ≡ true) ⊎ (d ≤ stood.third.day)
  -- which of them go
  pub left : (d v : ℕ) → any (has_read d v) (withdrawn_reads after) ≡ ltb (kept_from (journal_of before).entries) d && any (has_read d v) (withdrawn_reads before)

-- all of them
pub record Effects : Type 0 where
  pub apart : (area : List ℕ) → all_zero area ≡ true → is_sound area ≡ true → ⊥
  pub empty : (area : List ℕ) → all_zero area ≡ true → (journal_of area).entries ≡ []
  pub few_dials : (area : List ℕ) → is_sound area ≡ true → (meter_head area).dials < 10
  -- a head without a carry counts nothing; with one, a read stands; and a sound journal's standing days rise
  pub bare : (area : List ℕ) → (meter_head area).carried ≡ false → (meter_head area).carry ≡ no_carry
  pub unfolded : (area : List ℕ) → all_zero area ≡ true → (meter_head area).carry.folded ≡ 0
  pub carried : (area : List ℕ) → is_sound area ≡ true → standing_reads area ≡ [] → (meter_head area).carried ≡ false
  pub rise : (area : List ℕ) → is_sound area ≡ true → days_rise (standing_reads area) ≡ true
  pub enrol : (place : ℕ) (profile : Profile) (dials capacity : ℕ) (area : List ℕ) → length area ≡ area_bytes →
      let after = act (Enrol place profile dials capacity) area in
      number_of after.reply ≡ accepted → Enrolled dials area after.area after.reply
  pub submit : (place : ℕ) (s : Submission) (area : List ℕ) → length area ≡ area_bytes →
      let after = act (Submit place s) area in
      number_of after.reply ≡ accepted → Submitted s area after.area after.reply
  pub hold : (place : ℕ) (s : Submission) (area : List ℕ) → length area ≡ area_bytes →
      let after = act (Submit place s) area in
      (number_of after.reply ≡ accepted → ⊥) → may_change (number_of after.reply) ≡ true → Held area after.area
  pub withdraw : (place day value : ℕ) (area : List ℕ) → length area ≡ area_bytes →
      let after = act (Withdraw place day value) area in
      number_of after.reply ≡ accepted → Withdrew day value area after.area after.reply
  pub fold : (place : ℕ) (area : List ℕ) → length area ≡ area_bytes →
      let after = act (Fold place) area in
      number_of after.reply ≡ accepted → Folded area after.area
  pub fold_refused : (place : ℕ) (area : List ℕ) →
      let after = act (Fold place) area in
      (number_of after.reply ≡ accepted → ⊥) → after.area ≡ area
  pub enrol_refused_lem : (place : ℕ) (profile : Profile) (dials capacity : ℕ) (area : List ℕ) →
      let after = act (Enrol place profile dials capacity) area in
      (number_of after.reply ≡ accepted → ⊥) → after.area ≡ area
  pub submit_refused : (place : ℕ) (s : Submission) (area : List ℕ) →
      let after = act (Submit place s) area in
      may_change (number_of after.reply) ≡ false → after.area ≡ area
  pub withdraw_refused_lem : (place day value : ℕ) (area : List ℕ) →
      let after = act (Withdraw place day value) area in
      (number_of after.reply ≡ accepted → ⊥) → after.area ≡ area
  pub report : (place : ℕ) (area : List ℕ) → (act (ReportCall place) area).area ≡ area
  pub trial : (place : ℕ) (s : Submission) (area : List ℕ) → (act (Trial place s) area).area ≡ area
  pub foretold : (place : ℕ) (s : Submission) (area : List ℕ) → (act (Trial place s) area).reply ≡ (act (Submit place s) area).reply
  pub size : (call : Call) (area : List ℕ) → length area ≡ area_bytes → length (act call area).area ≡ area_bytes
