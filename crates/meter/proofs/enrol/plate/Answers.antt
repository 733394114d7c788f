-- No carry, as the definition has it.
use Rattle.meter.proofs.enrol.plate.Goals as goal

pub returns : goal.returns
returns c = cc c.no_carry.ensures
