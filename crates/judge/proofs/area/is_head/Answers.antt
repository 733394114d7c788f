-- The kind of the first byte, and the plate.
use Rattle.journal.specs.Sound.{is_head}
use Rattle.judge.proofs.area.is_head.Goals as goal

pub returns : goal.returns
unfolding is_head
returns c = rw (c.is_meter.ensures, c.requires.1)
