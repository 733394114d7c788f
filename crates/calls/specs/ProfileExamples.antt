-- 02, 4, Pseudo meters: examples that fix what a profile means. The meter is at place 7, as in the other examples.
use Rattle.std.specs.Prelude.{◌≡◌, Bool, true, false, [], ◌∷◌, ℕ, pos}
use Rattle.terms.specs.declared.entry.Entry.{Entry}
use Rattle.terms.specs.declared.profile.Profile.{Profile}
use Rattle.terms.specs.declared.profile.Profile.TheVariants.{Ordinary, Pseudo}
use Rattle.terms.specs.declared.submission.Submission.{Submission}
use Rattle.terms.specs.Answer.{answer}
use Rattle.terms.specs.Entry.{kind_standing, kind_withdrawn, kind_held, indicator_not_set, indicator_true}
use Rattle.terms.specs.Letter.{letter_i, letter_o, letter_f, letter_c, letter_u, letter_r, letter_t, letter_s, letter_x, letter_y, letter_e}
use Rattle.terms.specs.Number.{accepted, content, other_type, date}
use Rattle.terms.specs.Rule.{first_broken}
use Rattle.register.specs.declared.head.Carry.{Carry}
use Rattle.register.specs.declared.head.Head.{Head}
use Rattle.register.specs.Head.{no_carry, head_of, put_head}
use Rattle.journal.specs.Sound.{is_head, is_read}
use Rattle.calls.specs.declared.call.Call.TheVariants.{Enrol}
use Rattle.calls.specs.declared.call.Reply.TheVariants.{Answered}
use Rattle.calls.specs.Checks.{content_rules}
use Rattle.calls.specs.Calls.{plate_of}
use Rattle.calls.specs.Fold.{head_after}
use Rattle.calls.specs.Play.{Exchange, exchange, is_picked}
use Rattle.calls.specs.Ledger.{ledger_of, has_enrolment}
use Rattle.calls.specs.Examples.{meter, full, counts}

abbrev pub enrolled_pseudo : Exchange
enrolled_pseudo = exchange (Enrol meter Pseudo 6 5000) (Answered (answer accepted 0 (pos 0)))

abbrev pub plate_is : Profile → Bool → Carry → Head
plate_is profile carried carry =
    record { profile = profile; dials = 4; capacity = 5000; carried = carried; carry = carry }

-- a read of a type, with an indicator; sent on day 1600
abbrev pub typed : ℕ → ℕ → ℕ → Submission
typed letter day indicator =
    record { submitted = 1600; day = day; value = 100; letter = letter; indicator = indicator; reread = 0 }

abbrev pub typed_entry : ℕ → ℕ → Entry
typed_entry kind letter =
    record { kind = kind; day = 1540; value = 100; letter = letter; indicator = indicator_not_set; flag = 0 }

-- what is submitted, against an empty journal of this profile
abbrev pub content_number : Profile → Submission → ℕ
content_number profile s = first_broken (content_rules s (record { head = plate_is profile false no_carry; entries = [] }))

-- THE CLAIM: one row for each example
pub record ProfileExamplesHold : Type 0 where
  -- "Kind 7 stands where kind 1 would, same body", and a carry may follow it
  pub pseudo_read : head_of (7 ∷ 4 ∷ 136 ∷ 19 ∷ 0 ∷ 0 ∷ 2 ∷ []) ≡ plate_is Pseudo false no_carry
  pub pseudo_carry_read : head_of (7 ∷ 4 ∷ 136 ∷ 19 ∷ 0 ∷ 0 ∷ 5 ∷ 40 ∷ 35 ∷ 0 ∷ 0 ∷ 47 ∷ 0 ∷ 1 ∷ 0 ∷ []) ≡ plate_is Pseudo true (counts 9000 47 1)
  pub pseudo_head : is_head (7 ∷ 4 ∷ 136 ∷ 19 ∷ 0 ∷ 0 ∷ []) ≡ true
  pub ordinary_head : is_head (1 ∷ 4 ∷ 136 ∷ 19 ∷ 0 ∷ 0 ∷ []) ≡ true
  pub no_meter_kind : is_head (6 ∷ 4 ∷ 136 ∷ 19 ∷ 0 ∷ 0 ∷ []) ≡ false
  -- an enrolment writes the kind of its profile, and all else alike
  pub pseudo_written : put_head (0 ∷ 0 ∷ 0 ∷ 0 ∷ 0 ∷ 0 ∷ []) (plate_of Pseudo 4 5000) ≡ 7 ∷ 4 ∷ 136 ∷ 19 ∷ 0 ∷ 0 ∷ []
  pub ordinary_written : put_head (0 ∷ 0 ∷ 0 ∷ 0 ∷ 0 ∷ 0 ∷ []) (plate_of Ordinary 4 5000) ≡ 1 ∷ 4 ∷ 136 ∷ 19 ∷ 0 ∷ 0 ∷ []
  -- a fold leaves the profile
  pub pseudo_kept : (head_after (record { head = plate_is Pseudo false no_carry; entries = full.entries })).profile ≡ Pseudo
  -- "n is from the meter's accepted enrolment", of either profile
  pub pseudo_picked : is_picked meter enrolled_pseudo ≡ true
  pub pseudo_ledger : ledger_of meter (enrolled_pseudo ∷ []) ≡ record { standing = []; advances = pos 0; flags = pos 0; dials = 6; withdrawn = []; folded = 0 }
  pub pseudo_enrolled : has_enrolment meter (enrolled_pseudo ∷ []) ≡ true
  -- "Such a meter takes types I and F only"; 001, 2.1.4: "all other Read Types will not be accepted", and it names them
  pub initial_taken : content_number Pseudo (typed letter_i 1540 indicator_not_set) ≡ accepted
  pub final_taken : content_number Pseudo (typed letter_f 1540 indicator_true) ≡ accepted
  pub opening_not : content_number Pseudo (typed letter_o 1540 indicator_not_set) ≡ other_type
  pub cyclic_not : content_number Pseudo (typed letter_c 1540 indicator_not_set) ≡ other_type
  pub customer_not : content_number Pseudo (typed letter_u 1540 indicator_not_set) ≡ other_type
  pub amr_not : content_number Pseudo (typed letter_r 1540 indicator_not_set) ≡ other_type
  pub transfer_not : content_number Pseudo (typed letter_t 1540 indicator_not_set) ≡ other_type
  pub estimated_transfer_not : content_number Pseudo (typed letter_s 1540 indicator_not_set) ≡ other_type
  pub disconnection_not : content_number Pseudo (typed letter_x 1540 indicator_not_set) ≡ other_type
  pub reconnection_not : content_number Pseudo (typed letter_y 1540 indicator_not_set) ≡ other_type
  pub end_not : content_number Pseudo (typed letter_e 1540 indicator_not_set) ≡ other_type
  -- an ordinary one takes all eleven
  pub ordinary_opening : content_number Ordinary (typed letter_o 1540 indicator_not_set) ≡ accepted
  pub ordinary_end : content_number Ordinary (typed letter_e 1540 indicator_not_set) ≡ accepted
  -- "29, .. after 6", and before 7: an unknown type and a bad indicator are 6, a read of day 0 is 29
  pub unknown_first : content_number Pseudo (typed 90 1540 indicator_not_set) ≡ content
  pub indicator_first : content_number Pseudo (typed letter_c 1540 3) ≡ content
  pub day_later : content_number Pseudo (typed letter_c 0 indicator_not_set) ≡ other_type
  pub day_then : content_number Pseudo (typed letter_f 0 indicator_not_set) ≡ date
  -- "a journal holding another type there is damaged": standing, withdrawn or held
  pub pseudo_final : is_read (plate_is Pseudo false no_carry) (typed_entry kind_held letter_f) ≡ true
  pub pseudo_standing : is_read (plate_is Pseudo false no_carry) (typed_entry kind_standing letter_o) ≡ false
  pub pseudo_withdrawn : is_read (plate_is Pseudo false no_carry) (typed_entry kind_withdrawn letter_c) ≡ false
  pub pseudo_held : is_read (plate_is Pseudo false no_carry) (typed_entry kind_held letter_c) ≡ false
  pub ordinary_withdrawn : is_read (plate_is Ordinary false no_carry) (typed_entry kind_withdrawn letter_c) ≡ true
