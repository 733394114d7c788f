-- 02, 6, A standing tally: examples that fix what a program in C tells, and what a tally makes of it. The meter is at place 7, and the calls and
-- tallies are those of the tally's own examples.
use Rattle.std.specs.Prelude.{◌≡◌, [], ◌∷◌, ℕ, pos, neg_ℤ}
use Rattle.terms.specs.declared.profile.Profile.TheVariants.{Ordinary, Pseudo}
use Rattle.terms.specs.Number.{accepted, no_meter, high, not_last, enrolled, no_fold}
use Rattle.calls.specs.declared.call.Call.TheVariants.{Submit}
use Rattle.calls.specs.Examples.{meter, read, submitted, withdrew, asked, asked_in_vain, fold_answered}
use Rattle.calls.specs.TrialExamples.{tried}
use Rattle.tally.specs.Tally.{tallied, zero_tally}
use Rattle.tally.specs.Examples.{enrolled_as, enrol_refused, submit_answered, withdraw_refused, elsewhere, year, none, one, two}
use Rattle.necktureen.specs.Told.{told_of, Told, told, exchange_told, all_told, told_over}

-- THE CLAIM: one row for each example
pub record ToldExamplesHold : Type 0 where
  -- what is told of each call and its reply; where there is nothing to tell, any number
  pub enrolment : (any : Told) → exchange_told (enrolled_as Ordinary 4) any ≡ told 1 4 any.value accepted 0 (pos 0)
  pub pseudo_enrolment_row : (any : Told) → exchange_told (enrolled_as Pseudo 9) any ≡ told 6 9 any.value accepted 0 (pos 0)
  pub refused_enrolment_row : (any : Told) → exchange_told enrol_refused any ≡ told 1 4 any.value enrolled 0 (pos 0)
  pub submission : (any : Told) → exchange_told (submitted 1540 100 1 (pos 700)) any ≡ told 2 any.dials 100 accepted 1 (pos 700)
  pub held_submission : (any : Told) → exchange_told (submit_answered high) any ≡ told 2 any.dials 9400 high 0 (pos 0)
  pub withdrawal : (any : Told) → exchange_told (withdrew 1540 100 1 (neg_ℤ (pos 700))) any ≡ told 3 any.dials any.value accepted 1 (neg_ℤ (pos 700))
  pub refused_withdrawal : (any : Told) → exchange_told withdraw_refused any ≡ told 3 any.dials any.value not_last 0 (pos 0)
  pub report : (any : Told) → exchange_told asked any ≡ told 4 any.dials any.value accepted any.flag any.advance
  pub refused_report_row : (any : Told) → exchange_told asked_in_vain any ≡ told 4 any.dials any.value no_meter any.flag any.advance
  pub folding : (any : Told) → exchange_told (fold_answered accepted) any ≡ told 5 any.dials any.value accepted 0 (pos 0)
  pub refused_fold : (any : Told) → exchange_told (fold_answered no_fold) any ≡ told 5 any.dials any.value no_fold 0 (pos 0)
  pub trial : (any : Told) → exchange_told (tried accepted 1 (pos 700)) any ≡ told 0 any.dials any.value accepted 1 (pos 700)
  -- what a tally makes of a kind: 1 and 6 enrol, 2 is a submission, 3 a withdrawal, and no other changes it
  pub kind_1 : told_of 1 4 9400 accepted 0 (pos 0) zero_tally ≡ none
  pub kind_6 : told_of 6 4 9400 accepted 0 (pos 0) zero_tally ≡ none
  pub kind_0_enrols_none : told_of 0 4 9400 accepted 0 (pos 0) zero_tally ≡ zero_tally
  pub kind_7_enrols_none : told_of 7 4 9400 accepted 0 (pos 0) zero_tally ≡ zero_tally
  pub kind_2 : told_of 2 5 9400 accepted 0 (pos 200) one ≡ two
  pub kind_3 : told_of 3 5 100 accepted 0 (neg_ℤ (pos 200)) two ≡ one
  pub kind_0 : told_of 0 4 9400 accepted 0 (pos 200) one ≡ one
  pub kind_4 : told_of 4 4 9400 accepted 0 (pos 200) one ≡ one
  pub kind_5 : told_of 5 4 9400 accepted 0 (pos 200) one ≡ one
  pub kind_7 : told_of 7 4 9400 accepted 0 (pos 200) one ≡ one
  pub kind_255 : told_of 255 4 9400 accepted 0 (pos 200) one ≡ one
  -- a refusal changes nothing
  pub refused_kind_1 : told_of 1 4 0 enrolled 0 (pos 0) zero_tally ≡ zero_tally
  pub refused_kind_2 : told_of 2 0 9400 high 0 (pos 0) one ≡ one
  pub refused_kind_3 : told_of 3 0 0 not_last 0 (pos 0) two ≡ two
  -- "after every answered call on that meter": nothing is told of another meter's call or of a trial
  pub in_order : (any : ℕ → Told) → all_told meter any (enrolled_as Pseudo 4 ∷ elsewhere (Submit 8 (read 1000 70000)) 0 (pos 0) ∷ submitted 1000 9200 0 (pos 0) ∷ tried accepted 0 (pos 200) ∷ asked ∷ []) ≡ told 6 4 (any 4).value accepted 0 (pos 0) ∷ told 2 (any 2).dials 9200 accepted 0 (pos 0) ∷ told 4 (any 0).dials (any 0).value accepted (any 0).flag (any 0).advance ∷ []
  pub over_a_year : (any : ℕ → Told) → told_over (all_told meter any year) zero_tally ≡ tallied 4 3 1 9200 300
  pub elsewhere_over_a_year : (any : ℕ → Told) → told_over (all_told 8 any year) zero_tally ≡ tallied 5 2 1 70000 100
  pub nowhere_over_a_year : (any : ℕ → Told) → all_told 9 any year ≡ []
