use Rattle.reads.proofs.Searched.{search_right}
use Rattle.reads.proofs.claims.search_holds.Goals as goal

pub returns : goal.returns
returns c = search_right
