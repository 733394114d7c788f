-- The calls have the effects that the theorem about lists uses: each is read off the laws about one call (`Acted`).
use Rattle.std.specs.Prelude.{Option, Some, None}
use mathlib.Core.Path.{◌≡◌, refl, sym, ap, ◌∙◌}
use mathlib.Core.Logic.{inl, inr}
use mathlib.Core.Bool.{Bool, true, false, not, ◌&&◌, ◌||◌}
use mathlib.Core.List.{List, [], ◌∷◌}
use Prim.Native.Nat.{ℕ, ◌≤◌, ◌<◌}
use native.Mathlib.Omega.{arith}
use borrow.Author.Tests.{eqb-true, eqb-false, eq-eqb, ne_eqb, leb-true, not-false}
use lib.Dec.{eqb, leb}
use lib.IntN.{neg_ℤ}
use lib.ListN.{length}
use Rattle.register.specs.declared.head.Head.{Head}
use Rattle.terms.specs.declared.profile.Profile.{Profile}
use Rattle.terms.specs.declared.entry.Entry.{Entry}
use Rattle.terms.specs.declared.submission.Submission.{Submission}
use Rattle.terms.specs.Entry.{those, kind_carry, indicator_not_set, indicator_true, is_standing, is_withdrawn, is_held, slot_at}
use Rattle.terms.specs.Letter.{is_opening}
use Rattle.terms.specs.Profile.{takes}
use Rattle.terms.specs.Answer.{answer}
use Rattle.terms.specs.Number.{accepted}
use Rattle.rules.specs.Volume.{advance_over}
use Rattle.terms.specs.Rule.{first_broken}
use Rattle.register.specs.Area.{area_bytes, all_zero}
use Rattle.register.specs.Entries.{entry_start}
use Rattle.register.specs.Head.{meter_bytes, is_carry_at, no_carry, head_of, head_bytes, body_of}
use Rattle.register.proofs.Heads.{bare_carry}
use Rattle.journal.specs.Journal.{Journal, journal_of, entries_to, standing}
use Rattle.journal.specs.Sound.{every, least_dials, most_dials, is_plate, holds, opens, is_in_range, is_read, opens_right, is_sound}
use Rattle.calls.specs.declared.call.Call.{Call}
use Rattle.calls.specs.declared.call.Call.TheVariants.{Enrol, Submit, Withdraw, Report as ReportCall, Fold, Trial}
use Rattle.calls.specs.declared.call.Reply.TheVariants.{Answered}
use Rattle.calls.specs.Checks.{enrol_checks, submit_checks, withdraw_checks, fold_checks}
use Rattle.calls.specs.Calls.{act, Acted, plate_of, entry_for, enrol_in, submit_in, withdraw_in, withdrawn_answer, is_volume_query, fold_in, trial_in}
use Rattle.calls.specs.Fold.{folded_journal}
use Rattle.calls.proofs.Bools.{both, by_test}
use Rattle.journal.proofs.Bools.{neither}
use Rattle.calls.proofs.Broken.{unbroken}
use Rattle.calls.proofs.Zeros.{zero_at, zero_drop}
use Rattle.calls.proofs.Lists.{every_those}
use Rattle.calls.proofs.Clauses.{Clauses, clauses_of}
use Rattle.calls.proofs.Shape.{sounds, entries_are, plate_of_lem, head_there}
use Rattle.calls.proofs.Accepted.{accepted_checked, query_passed}
use Rattle.calls.proofs.Withdrawn.{can_withdraw, now_withdrawn, still_withdrawn}
use Rattle.calls.proofs.Acted.{enrolment, enrol_unchanged, submission, volume_query, submit_unchanged, accepted_standing, accepted_withdrawn, query_standing, query_withdrawn, withdrawal_in, withdraw_unchanged, report_unchanged, can_fold, fold_in_lem, fold_unchanged, trial_unchanged}
use Rattle.calls.proofs.FoldedArea.{stood, folded_standing, folded_left, folded_withdrawn}
use Rattle.calls.proofs.Carried.{none_uncarried}
use Rattle.calls.proofs.Passed.{read_dated, read_later, read_fresh}
use Rattle.calls.specs.Play.{number_of, may_change}
use Rattle.calls.proofs.Frame.{Local}
use Rattle.calls.proofs.Totals.{IsFlag}
use Rattle.calls.proofs.Effects.{standing_reads, Enrolled, Held, Submitted, Withdrew, Folded, Effects}

-- ---- a flag of at most 1
small : (f : ℕ) → f ≤ 1 → IsFlag f
small f h = by_test (eqb f 0) (λ t. inl (eqb-true f 0 t)) (λ t. let ne = eqb-false f 0 t in inr (omega arith))

-- the fifth of six clauses
fifth : (a b c d e f : Bool) → a && (b && (c && (d && (e && f)))) ≡ true → e ≡ true
fifth a b c d e f h = (both e f (both d _ (both c _ (both b _ (both a _ h).1).1).1).1).0

flag_bound : (head : Head) (e : Entry) → is_in_range head e ≡ true → leb e.flag 1 ≡ true
unfolding is_in_range
flag_bound head e h =
    fifth (not (eqb e.day 0)) (holds head e.value) (takes head.profile e.letter) (leb e.indicator indicator_true) (leb e.flag 1) (not (is_opening e.letter) || eqb e.indicator indicator_not_set) h

-- ---- a sound area
module _ (area : List ℕ) (sound : is_sound area ≡ true) where
  abbrev head : Head
  head = head_of area

  clauses : Clauses head (journal_of area).entries
  clauses = clauses_of head (journal_of area).entries (sounds area sound).sound

  not_zero : all_zero area ≡ true → ⊥
  not_zero zero = head_there area (sounds area sound).head (zero_at area 0 zero)

  dials_few : (journal_of area).head.dials < 10
  unfolding is_plate journal_of
  dials_few =
      let upper : leb head.dials most_dials ≡ true = (both _ (not (eqb head.capacity 0)) (both (leb least_dials head.dials) _ (plate_of_lem area (sounds area sound).head)).1).0 in
      let most : head.dials ≤ most_dials = leb-true head.dials most_dials upper in
      omega arith

  module _ (e : Entry) (ss : List Entry) (stands : standing_reads area ≡ e ∷ ss) where
    newest_read : is_read head e ≡ true
    unfolding every
    newest_read =
        let all : every (is_read head) (e ∷ ss) ≡ true = rw stands at (every_those (is_read head) is_standing (journal_of area).entries clauses.reads) in
        (both (is_read head e) (every (is_read head) ss) all).0

    newest_flag : IsFlag e.flag
    unfolding is_read
    newest_flag = small e.flag (leb-true e.flag 1 (flag_bound head e (both (is_standing e || (is_withdrawn e || is_held e)) (is_in_range head e) newest_read).1))

    -- the only read of a meter without a carry has no flag
    only_flag : (journal_of area).head.carried ≡ false → ss ≡ [] → e.flag ≡ 0
    unfolding opens_right opens journal_of
    only_flag bare none =
        let opens : is_opening e.letter && eqb e.flag 0 ≡ true = rw (stands, none, bare) at clauses.opens in
        eqb-true e.flag 0 (both (is_opening e.letter) (eqb e.flag 0) opens).1

  none_carried : standing_reads area ≡ [] → (journal_of area).head.carried ≡ false
  unfolding journal_of
  none_carried none = none_uncarried head (rw none at clauses.carry)

-- ---- the number that a call answers is that of its checks
module _ (plate : Head) (area : List ℕ) where
  abbrev enrol_number : ℕ
  enrol_number = first_broken (enrol_checks plate area)

  pub enrol_number_lem : number_of (enrol_in plate area).reply ≡ enrol_number
  unfolding enrol_in number_of
  enrol_number_lem = by_test (eqb enrol_number accepted) (λ h. rw h (sym (eqb-true enrol_number accepted h))) (λ h. rw h)

module _ (s : Submission) (area : List ℕ) where
  abbrev submit_number : ℕ
  submit_number = first_broken (submit_checks s area)

  pub submit_number_lem : number_of (submit_in s area).reply ≡ submit_number
  unfolding submit_in number_of
  submit_number_lem =
      by_test (eqb submit_number accepted)
      (λ h. rw h (sym (eqb-true submit_number accepted h)))
      (λ h. by_test (is_volume_query submit_number) (λ q. rw (h, q)) (λ q. rw (h, q)))

module _ (day value : ℕ) (area : List ℕ) where
  abbrev withdraw_number : ℕ
  withdraw_number = first_broken (withdraw_checks day value area)

  answer_number : (n : ℕ) (last second : Option Entry) → (withdrawn_answer n last second).number ≡ accepted
  unfolding withdrawn_answer
  answer_number n (Some e) second = refl
  answer_number n None second = refl

  pub withdraw_number_lem : number_of (withdraw_in day value area).reply ≡ withdraw_number
  unfolding withdraw_in number_of
  withdraw_number_lem =
      by_test (eqb withdraw_number accepted)
      (λ h. rw h (answer_number (journal_of area).head.dials _ _ ∙ sym (eqb-true withdraw_number accepted h)))
      (λ h. rw h)

module _ (area : List ℕ) where
  abbrev fold_number : ℕ
  fold_number = first_broken (fold_checks area)

  pub fold_number_lem : number_of (fold_in area).reply ≡ fold_number
  unfolding fold_in number_of
  fold_number_lem = by_test (eqb fold_number accepted) (λ h. rw h (sym (eqb-true fold_number accepted h))) (λ h. rw h)

-- ---- what the accepted calls do
module _ (place : ℕ) (profile : Profile) (dials capacity : ℕ) (area : List ℕ) (size : length area ≡ area_bytes) where
  known_enrol : number_of (act (Enrol place profile dials capacity) area).reply ≡ accepted → Enrolled dials area (act (Enrol place profile dials capacity) area).area (act (Enrol place profile dials capacity) area).reply
  unfolding act enrol_in those enrol_checks
  known_enrol h =
      let number : enrol_number (plate_of profile dials capacity) area ≡ accepted = sym (enrol_number_lem (plate_of profile dials capacity) area) ∙ h in
      let e = enrolment (plate_of profile dials capacity) area size refl refl number in
      let u = unbroken accepted (enrol_checks (plate_of profile dials capacity) area) refl number in
      record {
        zero = not-false (all_zero area) u.0;
        sound = e.sound;
        dials_are = ap (λ (j : Journal). j.head.dials) e.journal;
        none = ap (λ (j : Journal). standing j.entries) e.journal;
        replied = rw (eq-eqb (enrol_number (plate_of profile dials capacity) area) accepted number);
      }

module _ (place : ℕ) (s : Submission) (area : List ℕ) (size : length area ≡ area_bytes) where
  abbrev after : Acted
  after = act (Submit place s) area

  known_submit : number_of after.reply ≡ accepted → Submitted s area after.area after.reply
  unfolding act submit_in entry_for
  known_submit h =
      let number : submit_number s area ≡ accepted = sym (submit_number_lem s area) ∙ h in
      let w = submission s area size number in
      let more = accepted_standing s area size number in
      let sound = (accepted_checked s area number).sound in
      let passed = (accepted_checked s area number).passed in
      record {
        was_sound = sound;
        sound = w.sound;
        same_head = ap (λ (j : Journal). j.head) w.journal;
        one_more = more;
        same_withdrawn = accepted_withdrawn s area size number;
        flag = newest_flag after.area w.sound _ _ more;
        first_flag = λ none. only_flag after.area w.sound _ _ more (ap (λ (j : Journal). j.head.carried) w.journal ∙ none_carried area sound none) none;
        dated = read_dated s (journal_of area) passed;
        later = λ r ss are. read_later s (journal_of area) passed r ss are;
        fresh = read_fresh s (journal_of area) passed;
        replied = rw (eq-eqb (submit_number s area) accepted number);
      }

  known_hold : (number_of after.reply ≡ accepted → ⊥) → may_change (number_of after.reply) ≡ true → Held area after.area
  unfolding act may_change
  known_hold never h =
      let refused : eqb (submit_number s area) accepted ≡ false = ne_eqb (submit_number s area) accepted (λ e. never (submit_number_lem s area ∙ e)) in
      let query : is_volume_query (submit_number s area) ≡ true = rw (submit_number_lem s area, refused) at h in
      let w = volume_query s area size query in
      record {
        was_sound = (query_passed s area query).sound;
        sound = w.sound;
        same_head = ap (λ (j : Journal). j.head) w.journal;
        same_standing = query_standing s area size query;
        same_withdrawn = query_withdrawn s area size query;
      }

module _ (place day value : ℕ) (area : List ℕ) (size : length area ≡ area_bytes) where
  abbrev n : ℕ
  n = (journal_of area).head.dials

  withdraw_reply : withdraw_number day value area ≡ accepted → (withdraw_in day value area).reply ≡ Answered (withdrawn_answer n (slot_at (standing_reads area) 0) (slot_at (standing_reads area) 1))
  unfolding withdraw_in
  withdraw_reply h = rw (eq-eqb (withdraw_number day value area) accepted h)

  last_answer : (r : Entry) {ss : List Entry} → standing_reads area ≡ r ∷ ss → withdrawn_answer n (slot_at (standing_reads area) 0) (slot_at (standing_reads area) 1) ≡ answer accepted r.flag (neg_ℤ (advance_over n r.value r.flag (slot_at ss 0)))
  unfolding withdrawn_answer slot_at
  last_answer r e = rw e

  known_withdraw : number_of (act (Withdraw place day value) area).reply ≡ accepted → Withdrew day value area (act (Withdraw place day value) area).area (act (Withdraw place day value) area).reply
  unfolding act
  known_withdraw h =
      let number : withdraw_number day value area ≡ accepted = sym (withdraw_number_lem day value area) ∙ h in
      let w = withdrawal_in day value area size number in
      let sound = (can_withdraw day value area number).sound in
      record {
        last = w.read;
        was_sound = sound;
        sound = w.sound;
        same_head = ap (λ (j : Journal). j.head) w.journal;
        one_less = w.stood;
        names_it = w.named;
        flag = newest_flag area sound w.read _ w.stood;
        first_flag = λ none. only_flag area sound w.read _ w.stood (ap (λ (j : Journal). j.head.carried) (sym w.journal) ∙ none_carried _ w.sound none) none;
        keeps = still_withdrawn day value area _ w;
        has = now_withdrawn day value area _ w;
        only = w.withdrawn_now;
        replied = withdraw_reply number ∙ ap Answered (last_answer w.read w.stood);
      }

module _ (place : ℕ) (area : List ℕ) (size : length area ≡ area_bytes) where
  known_fold : number_of (act (Fold place) area).reply ≡ accepted → Folded area (act (Fold place) area).area
  unfolding act folded_journal
  known_fold h =
      let number : fold_number area ≡ accepted = sym (fold_number_lem area) ∙ h in
      let w = fold_in_lem area size number in
      let c = can_fold area number in
      record {
        was_sound = c.sound;
        sound = w.sound;
        head_is = ap (λ (j : Journal). j.head) w.journal;
        stood = stood area _ c.sound c.may w;
        stand = folded_standing area _ c.sound c.may w;
        gone = folded_withdrawn area _ c.sound c.may w;
        left = folded_left area _ c.sound c.may w;
      }

-- ---- all of them
empty_body : (area : List ℕ) → all_zero area ≡ true → all_zero (body_of area) ≡ true
unfolding body_of
empty_body area zero = zero_drop (head_bytes (head_of area)) area zero

empty_entries : (area : List ℕ) → all_zero area ≡ true → (journal_of area).entries ≡ []
unfolding entries_to every
empty_entries area zero = entries_are area 0 (omega arith) (zero_drop (entry_start 0) (body_of area) (empty_body area zero)) refl

-- a refused call leaves the area; so does a report
by_number : (number : ℕ) {answered : ℕ} → answered ≡ number → (answered ≡ accepted → ⊥) → eqb number accepted ≡ false
by_number number e never = ne_eqb number accepted (λ h. never (e ∙ h))

submit_left : (s : Submission) (area : List ℕ) → may_change (number_of (submit_in s area).reply) ≡ false → (submit_in s area).area ≡ area
unfolding may_change
submit_left s area h =
    let number = submit_number s area in
    let none : eqb number accepted || is_volume_query number ≡ false = rw (submit_number_lem s area) at h in
    let each = neither (eqb number accepted) (is_volume_query number) none in
    submit_unchanged s area each.0 each.1

kept_size : {before after : List ℕ} → after ≡ before → length before ≡ area_bytes → length after ≡ area_bytes
kept_size e size = ap length e ∙ size

size_after : (call : Call) (area : List ℕ) → length area ≡ area_bytes → length (act call area).area ≡ area_bytes
unfolding act
size_after (Enrol place profile dials capacity) area size =
    by_test (eqb (enrol_number (plate_of profile dials capacity) area) accepted)
    (λ h. (enrolment (plate_of profile dials capacity) area size refl refl (eqb-true _ _ h)).size)
    (λ h. kept_size (enrol_unchanged (plate_of profile dials capacity) area h) size)
size_after (Submit place s) area size =
    by_test (eqb (submit_number s area) accepted)
    (λ h. (submission s area size (eqb-true _ _ h)).size)
    (λ h.
    by_test (is_volume_query (submit_number s area))
    (λ q. (volume_query s area size q).size)
    (λ q. kept_size (submit_unchanged s area h q) size))
size_after (Withdraw place day value) area size =
    by_test (eqb (withdraw_number day value area) accepted)
    (λ h. (withdrawal_in day value area size (eqb-true _ _ h)).size)
    (λ h. kept_size (withdraw_unchanged day value area h) size)
size_after (ReportCall place) area size = kept_size (report_unchanged area) size
size_after (Fold place) area size =
    by_test (eqb (fold_number area) accepted)
    (λ h. (fold_in_lem area size (eqb-true _ _ h)).size)
    (λ h. kept_size (fold_unchanged area h) size)
size_after (Trial place s) area size = kept_size (trial_unchanged s area) size

bare_head : (area : List ℕ) → (journal_of area).head.carried ≡ false → (journal_of area).head.carry ≡ no_carry
unfolding journal_of
bare_head area h = bare_carry area h

-- an area of zeros has no carry
zero_unfolded : (area : List ℕ) → all_zero area ≡ true → (journal_of area).head.carry.folded ≡ 0
unfolding journal_of head_of is_carry_at no_carry
zero_unfolded area zero =
    let none : is_carry_at area meter_bytes ≡ false = ap (λ (k : ℕ). eqb k kind_carry) (zero_at area meter_bytes zero) in
    rw none

pub effects : Effects
unfolding act trial_in
effects =
    record {
      apart = λ area zero sound. not_zero area sound zero;
      empty = empty_entries;
      few_dials = dials_few;
      bare = bare_head;
      unfolded = zero_unfolded;
      carried = none_carried;
      rise = λ area sound. (clauses area sound).rise;
      enrol = known_enrol;
      submit = known_submit;
      hold = known_hold;
      withdraw = known_withdraw;
      fold = known_fold;
      fold_refused = λ place area h. fold_unchanged area (by_number _ (fold_number_lem area) h);
      enrol_refused_lem = λ place profile dials capacity area h. enrol_unchanged (plate_of profile dials capacity) area (by_number _ (enrol_number_lem (plate_of profile dials capacity) area) h);
      submit_refused = λ place s area h. submit_left s area h;
      withdraw_refused_lem = λ place day value area h. withdraw_unchanged day value area (by_number _ (withdraw_number_lem day value area) h);
      report = λ place area. report_unchanged area;
      trial = λ place s area. trial_unchanged s area;
      foretold = λ place s area. refl;
      size = size_after;
    }

-- ---- the frame: a number that may not come with a change came with none
never_accepted : (number : ℕ) → may_change number ≡ false → number ≡ accepted → ⊥
unfolding may_change
never_accepted number h = eqb-false number accepted (neither (eqb number accepted) (is_volume_query number) h).0

unchanged : (call : Call) (area : List ℕ) → may_change (number_of (act call area).reply) ≡ false → (act call area).area ≡ area
unchanged (Enrol place profile dials capacity) area h = effects.enrol_refused_lem place profile dials capacity area (never_accepted _ h)
unchanged (Submit place s) area h = effects.submit_refused place s area h
unchanged (Withdraw place day value) area h = effects.withdraw_refused_lem place day value area (never_accepted _ h)
unchanged (ReportCall place) area h = effects.report place area
unchanged (Fold place) area h = effects.fold_refused place area (never_accepted _ h)
unchanged (Trial place s) area h = effects.trial place s area

pub local : Local
local = record { size = effects.size; unchanged = unchanged }
