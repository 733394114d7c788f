-- Every example computes to what it says.
use mathlib.Core.Path.{refl}
use Rattle.arithmetic.specs.Powers.{ten_to}
use Rattle.terms.specs.Entry.{is_standing, is_withdrawn, is_held, those}
use Rattle.terms.specs.Letter.{is_known, is_opening}
use Rattle.terms.specs.Profile.{meter_kind, profile_of, takes}
use Rattle.register.specs.Bytes.{word_at, long_at, put_word, put_long}
use Rattle.register.specs.Head.{is_carry_at, carry_at, no_carry, head_of, put_meter, put_head}
use Rattle.journal.specs.Sound.{any, holds, is_plate, is_head, is_in_range, is_read}
use Rattle.calls.specs.Calls.{place_of}
use Rattle.calls.specs.Checks.{is_missing, is_bad_content, is_other_type, is_bad_date, is_withdrawn_read, content_rules}
use Rattle.calls.specs.Fold.{head_after}
use Rattle.calls.specs.Play.{number_of, is_trial, names, may_change, is_picked}
use Rattle.calls.specs.Ledger.{empty_ledger, entered, is_accepted, ledger_after, ledger_of, is_enrolment, has_enrolment}
use Rattle.calls.proofs.claims.profile_examples_hold.Goals as goal

pub returns : goal.returns
unfolding ten_to is_standing is_withdrawn is_held those is_known is_opening meter_kind profile_of takes word_at long_at put_word put_long is_carry_at carry_at no_carry head_of put_meter put_head any holds is_plate is_head is_in_range is_read place_of is_missing is_bad_content is_other_type is_bad_date is_withdrawn_read content_rules head_after number_of is_trial names may_change is_picked empty_ledger entered is_accepted ledger_after ledger_of is_enrolment has_enrolment
returns c =
    record {
      pseudo_read = refl;
      pseudo_carry_read = refl;
      pseudo_head = refl;
      ordinary_head = refl;
      no_meter_kind = refl;
      pseudo_written = refl;
      ordinary_written = refl;
      pseudo_kept = refl;
      pseudo_picked = refl;
      pseudo_ledger = refl;
      pseudo_enrolled = refl;
      initial_taken = refl;
      final_taken = refl;
      opening_not = refl;
      cyclic_not = refl;
      customer_not = refl;
      amr_not = refl;
      transfer_not = refl;
      estimated_transfer_not = refl;
      disconnection_not = refl;
      reconnection_not = refl;
      end_not = refl;
      ordinary_opening = refl;
      ordinary_end = refl;
      unknown_first = refl;
      indicator_first = refl;
      day_later = refl;
      day_then = refl;
      pseudo_final = refl;
      pseudo_standing = refl;
      pseudo_withdrawn = refl;
      pseudo_held = refl;
      ordinary_withdrawn = refl;
    }
