-- Every example computes to what it says; how long a sheet may be is a test of its length.
use mathlib.Core.Path.{◌≡◌, refl}
use mathlib.Core.Bool.{true}
use mathlib.Core.List.{List, []}
use Prim.Native.Nat.{ℕ, suc}
use native.Mathlib.Omega.{arith}
use borrow.Author.Tests.{lt-ltb, le-ltb}
use lib.ListN.{length}
use Rattle.register.specs.Bytes.{word_at, long_at}
use Rattle.sheet.specs.Sheet.{kind_byte, call_at, form_of, entry_at, next_at, next_number, sheet_most, go_on, split_from, split_of}
use Rattle.sheet.proofs.claims.examples_hold.Goals as goal

module _ (sheet : List ℕ) where
  allowed : length sheet ≡ 60000 → split_of sheet ≡ split_from (suc (length sheet)) sheet 0
  unfolding split_of
  allowed e = rw (le-ltb sheet_most (length sheet) (omega (arith, e)))

  over : length sheet ≡ 60001 → split_of sheet ≡ record { calls = []; faulty = true }
  unfolding split_of
  over e = rw (lt-ltb sheet_most (length sheet) (omega (arith, e)))

pub returns : goal.returns
unfolding word_at long_at kind_byte call_at form_of entry_at next_at next_number go_on split_from split_of
returns c =
    record {
      enrolled = refl;
      submitted = refl;
      withdrawn = refl;
      reported = refl;
      folded = refl;
      pseudo_enrolled = refl;
      enrolment_cut = refl;
      submission_cut = refl;
      withdrawal_cut = refl;
      report_cut = refl;
      fold_cut = refl;
      pseudo_enrolment_cut = refl;
      kind_0 = refl;
      kind_7 = refl;
      fault_number = refl;
      second = refl;
      at_the_end = refl;
      empty = refl;
      no_fault = refl;
      third_a_fault = refl;
      longest = allowed;
      too_long = over;
    }
