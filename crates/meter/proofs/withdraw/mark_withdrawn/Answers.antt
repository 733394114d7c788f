-- The two writes in the definition's order.
use Rattle.calls.specs.Calls.{withdrawn_bytes}
use Rattle.meter.proofs.withdraw.mark_withdrawn.Goals as goal

pub returns-then-w : goal.returns-then-w
unfolding withdrawn_bytes
returns-then-w c = rw (c.put_entry.ensures, c.put_byte.ensures, c.if-w.true)

pub returns-else-w : goal.returns-else-w
unfolding withdrawn_bytes
returns-else-w c = rw (c.put_byte.ensures, c.if-w.false)
