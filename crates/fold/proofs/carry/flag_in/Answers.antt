-- The flag of a read that is there counts.
use borrow.Author.Rules.{rules}
use Rattle.journal.specs.Journal.{is_flagged}
use Rattle.fold.specs.Inner.Flags.{flag_in}
use Rattle.fold.proofs.carry.flag_in.Goals as goal

pub returns : goal.returns
unfolding flag_in is_flagged
returns c = search rules
