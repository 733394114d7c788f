-- Two numbers of two bytes each, so the sum fits.
use borrow.Author.Rules.{rules}
use Rattle.register.specs.Bytes.{long_at}
use Rattle.judge.proofs.read.long_at.Goals as goal

pub returns : goal.returns
unfolding long_at
returns c = search rules
