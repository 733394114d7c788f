-- What is folded is what was counted less the reads that are kept, and all that a journal counts fits two bytes.
use mathlib.Core.Path.{◌≡◌}
use mathlib.Core.Bool.{false}
use mathlib.Core.List.{List}
use Prim.Native.Nat.{ℕ, ◌+◌, ◌-◌, ◌≤◌}
use native.Mathlib.Omega.{arith}
use borrow.Author.Tests.{ltb-false}
use lib.Dec.{ltb}
use lib.ListN.{length, drop}
use Rattle.terms.specs.declared.entry.Recent.{Recent}
use Rattle.terms.specs.Entry.{recent_of}
use Rattle.journal.specs.Journal.{journal_of, standing}
use Rattle.journal.specs.Sound.{any, is_final_read}
use Rattle.journal.specs.Total.{flagged_of, flagged_in, first_in}
use Rattle.judge.specs.declared.area.Summary.{Summary}
use Rattle.judge.specs.Inner.Judged.{counts_of, summary_of, Counted}
use Rattle.reads.proofs.Counted.{day_is}
use Rattle.reads.proofs.Totals.{standing_counted, flagged_counted}
use Rattle.calls.specs.Checks.{least_to_fold, is_no_fold}
use Rattle.calls.specs.Fold.{reads_kept, carry_after}
use Rattle.journal.proofs.Bools.{neither}
use Rattle.calls.proofs.Days.{few_standing, few_flagged}
use Rattle.fold.specs.Inner.Flags.{flags_in}
use Rattle.fold.proofs.Flags.{flags_apart}
use Rattle.fold.proofs.carry.carry_after.Goals as goal

module _ (area : List ℕ) (t : Summary) (c : Counted area t) where
  many : is_no_fold (standing (journal_of area).entries) ≡ false → least_to_fold ≤ t.counts.standing
  unfolding is_no_fold summary_of counts_of
  many can =
      let n : least_to_fold ≤ length (standing (journal_of area).entries) = ltb-false _ _ (neither (ltb (length (standing (journal_of area).entries)) least_to_fold) (any is_final_read (standing (journal_of area).entries)) can).0 in
      rw c.summary n

  counts_fit : (t.head.carry.folded + t.counts.standing ≤ t.day) × (t.head.carry.flagged + t.counts.flagged ≤ t.day)
  counts_fit =
      let j = journal_of area in
      let s = few_standing area c.sound in
      let day = day_is area t c in
      (omega (arith, s, day, standing_counted j t c.summary), omega (arith, s, few_flagged area c.sound, day, flagged_counted j t c.summary))

  module _ (kept : Recent) (is : kept ≡ recent_of (standing (journal_of area).entries)) where
    flags_fit : t.counts.flagged ≡ flagged_of (drop reads_kept (standing (journal_of area).entries)) + flags_in kept
    unfolding summary_of counts_of flagged_of
    flags_fit = rw (c.summary, is) (flags_apart (standing (journal_of area).entries))

    carry_is : {flags first folded flagged : ℕ} → flags ≡ flags_in kept → first ≡ first_in (journal_of area).head (standing (journal_of area).entries) → folded ≡ t.counts.standing - reads_kept → flagged ≡ t.counts.flagged - flags → record { first = first; folded = t.head.carry.folded + folded; flagged = t.head.carry.flagged + flagged } ≡ carry_after (journal_of area)
    unfolding carry_after flagged_in summary_of counts_of
    carry_is {flags} {first} {folded} {flagged} f v n m =
        let more_folded : t.head.carry.folded + folded ≡ (journal_of area).head.carry.folded + (length (standing (journal_of area).entries) - reads_kept) = rw (n, c.summary) in
        let more : flagged ≡ flagged_of (drop reads_kept (standing (journal_of area).entries)) = omega (arith, f, m, flags_fit) in
        let before : t.head.carry.flagged ≡ (journal_of area).head.carry.flagged = rw c.summary in
        cc (v, more_folded, more, before)

pub overflow_sub-folded : goal.overflow_sub-folded
overflow_sub-folded c = omega (arith, many _ _ c.args.journal.now.counted c.requires.may_fold)

pub overflow_sub-flagged : goal.overflow_sub-flagged
overflow_sub-flagged c = omega (arith, flags_fit _ _ c.args.journal.now.counted c.args.kept c.requires.kept_is, c.flags_in.ensures)

pub overflow_add-result : goal.overflow_add-result
overflow_add-result c = omega (arith, (counts_fit _ _ c.args.journal.now.counted).0)

pub overflow_add-result-2 : goal.overflow_add-result-2
overflow_add-result-2 c = omega (arith, (counts_fit _ _ c.args.journal.now.counted).1)

pub returns : goal.returns
returns c = carry_is _ _ c.args.journal.now.counted c.args.kept c.requires.kept_is c.flags_in.ensures c.first.ensures c.from.ensures c.from-2.ensures
