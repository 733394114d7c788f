-- The code asks what the definition asks.
use Rattle.journal.proofs.plate.is_meter.Goals as goal

pub returns : goal.returns
returns c = rw (c.is_plate.ensures, c.meter_kind.ensures)
