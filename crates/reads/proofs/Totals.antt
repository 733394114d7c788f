-- What a report counts of a journal, by what was counted of it.
use mathlib.Core.Path.{◌≡◌}
use Prim.Native.Nat.{◌+◌}
use Rattle.journal.specs.Journal.{Journal, standing}
use Rattle.journal.specs.Total.{flagged_of, standing_in, flagged_in}
use Rattle.judge.specs.declared.area.Summary.{Summary}
use Rattle.judge.specs.Inner.Judged.{counts_of, summary_of}

module _ (j : Journal) (t : Summary) (is : t ≡ summary_of j) where
  pub standing_counted : t.head.carry.folded + t.counts.standing ≡ standing_in j.head (standing j.entries)
  unfolding summary_of counts_of standing_in
  standing_counted = rw is

  pub flagged_counted : t.head.carry.flagged + t.counts.flagged ≡ flagged_in j.head (standing j.entries)
  unfolding summary_of counts_of flagged_in flagged_of
  flagged_counted = rw is
