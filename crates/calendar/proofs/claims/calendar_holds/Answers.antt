-- The claim is put together from its parts.
use Rattle.calendar.proofs.Claim.{calendar}
use Rattle.calendar.proofs.claims.calendar_holds.Goals as goal

pub returns : goal.returns
returns c = calendar
