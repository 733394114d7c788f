-- The shift is a power of two, which fits.
use Rattle.judge.specs.Inner.Marks.{mark_on}
use Rattle.judge.proofs.Bits.{bit_shifted}
use Rattle.judge.proofs.marks.mark.Goals as goal

pub returns : goal.returns
unfolding mark_on
returns c = rw (bit_shifted c.args.value)
