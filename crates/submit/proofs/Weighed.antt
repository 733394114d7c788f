-- What a read that is weighed comes to, by the number of 19 to 21.
use mathlib.Core.Path.{◌≡◌}
use mathlib.Core.Bool.{true, false}
use mathlib.Core.List.{List}
use Prim.Native.Nat.{ℕ}
use lib.IntN.{ℤ}
use Rattle.terms.specs.declared.entry.Entry.{Entry}
use Rattle.terms.specs.declared.entry.Recent.{Recent}
use Rattle.terms.specs.declared.refusal.Refusal.{Refusal}
use Rattle.terms.specs.declared.submission.Submission.{Submission}
use Rattle.terms.specs.Answer.{answer, refusal}
use Rattle.terms.specs.Entry.{kind_standing, kind_held, recent_of}
use Rattle.terms.specs.Number.{accepted}
use Rattle.terms.specs.Refusal.{number_of}
use Rattle.terms.specs.Rule.{first_broken}
use Rattle.terms.proofs.Refusals.{refuses}
use Rattle.rules.specs.Volume.{advance_over, volume_number}
use Rattle.register.specs.Entries.{put_entry}
use Rattle.register.specs.Head.{entry_offset, offset_after}
use Rattle.journal.specs.Journal.{journal_of, standing}
use Rattle.judge.specs.declared.area.Summary.{Summary}
use Rattle.judge.specs.Inner.Judged.{counts_of, summary_of}
use Rattle.calls.specs.declared.call.Reply.TheVariants.{Answered}
use Rattle.calls.specs.Calls.{acted, refused, entry_for, written, is_volume_query, submitted_advance}
use Rattle.calls.specs.Checks.{taken_flag, volume_rules}
use Rattle.submit.specs.Inner.Decision.{submitted}

module _ (s : Submission) (area : List ℕ) {t : Summary} {recent : Recent} {flag : ℕ} (counted : t ≡ summary_of (journal_of area)) (last : recent ≡ recent_of (standing (journal_of area).entries)) (taken : flag ≡ taken_flag s (journal_of area)) where
  abbrev weighed : ℕ
  weighed = volume_number t.head.dials t.head.capacity s flag recent

  abbrev number : ℕ
  number = first_broken (volume_rules s (journal_of area))

  same : weighed ≡ number
  unfolding summary_of volume_number volume_rules
  same = rw (counted, last, taken)

  put_after : (kind : ℕ) → put_entry area (offset_after t.head t.counts.kept) (entry_for kind s flag) ≡ written kind s area
  unfolding summary_of counts_of written entry_offset journal_of
  put_after kind = rw (counted, taken)

  over_last : advance_over t.head.dials s.value flag recent.last ≡ submitted_advance s (journal_of area)
  unfolding summary_of recent_of submitted_advance
  over_last = rw (counted, last, taken)

  pub stands : {at : ℕ} {entry : Entry} {advance : ℤ} → accepted ≡ weighed → at ≡ offset_after t.head t.counts.kept → entry ≡ entry_for kind_standing s flag → advance ≡ advance_over t.head.dials s.value flag recent.last → acted (Answered (answer accepted flag advance)) (put_entry area at entry) ≡ submitted s area number
  unfolding submitted
  stands n a e v = rw (a, e, v, put_after, over_last, ← same, ← n, taken)

  pub holds : {at : ℕ} {entry : Entry} (r : Refusal) → number_of r ≡ weighed → is_volume_query (number_of r) ≡ true → at ≡ offset_after t.head t.counts.kept → entry ≡ entry_for kind_held s flag → acted (Answered (refusal (number_of r))) (put_entry area at entry) ≡ submitted s area number
  unfolding submitted
  holds r n q a e = rw (a, e, put_after, ← same, ← n, refuses, q)

  pub refuses_weighed : (r : Refusal) → number_of r ≡ weighed → is_volume_query (number_of r) ≡ false → refused (number_of r) area ≡ submitted s area number
  unfolding submitted
  refuses_weighed r n q = rw (← same, ← n, refuses, q)

pub ruleset weighing = (stands, holds, refuses_weighed)
