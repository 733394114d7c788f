-- The counts are the journal's, with those of its carry. A journal counts no more reads than it has days.
use mathlib.Core.Path.{◌∙◌}
use native.Mathlib.Omega.{arith}
use borrow.Author.Rules.{sfits_of}
use mathlib.Core.List.{List}
use Prim.Native.Nat.{ℕ, ◌+◌, ◌≤◌}
use mir.Syntax.{w64}
use mir.ValLaws.{to_z-of_z}
use Rattle.judge.specs.declared.area.Summary.{Summary}
use Rattle.judge.specs.Inner.Judged.{Counted}
use Rattle.journal.specs.Journal.{journal_of}
use Rattle.journal.specs.Total.{report_of}
use Rattle.reads.proofs.Counted.{day_is}
use Rattle.reads.proofs.Totals.{standing_counted, flagged_counted}
use Rattle.calls.proofs.Days.{few_standing, few_flagged}
use Rattle.meter.proofs.report.totals_of.Goals as goal

counts_fit : (area : List ℕ) (t : Summary) → Counted area t → (t.head.carry.folded + t.counts.standing ≤ t.day) × (t.head.carry.flagged + t.counts.flagged ≤ t.day)
counts_fit area t c =
    let j = journal_of area in
    let s = few_standing area c.sound in
    let day = day_is area t c in
    (omega (arith, s, day, standing_counted j t c.summary), omega (arith, s, few_flagged area c.sound, day, flagged_counted j t c.summary))

pub overflow_add-flagged : goal.overflow_add-flagged
overflow_add-flagged c = omega (arith, (counts_fit _ _ c.args.journal.now.counted).1)

pub overflow_add-result : goal.overflow_add-result
overflow_add-result c = omega (arith, (counts_fit _ _ c.args.journal.now.counted).0)

pub total_in-requires : goal.total_in-requires
total_in-requires c = flagged_counted _ _ c.args.journal.now.counted.summary

pub returns : goal.returns
unfolding report_of
returns c =
    let e = c.args.journal.now.counted.summary in
    let total = to_z-of_z w64 _ (sfits_of c.total_in.type_inv) ∙ c.total_in.ensures in
    rw (flagged_counted _ _ e, standing_counted _ _ e, total)
