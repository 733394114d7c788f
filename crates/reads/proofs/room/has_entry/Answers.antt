-- The code is the definition, test for test.
use Rattle.reads.specs.Inner.Room.{has_room}
use Rattle.reads.proofs.room.has_entry.Goals as goal

pub returns : goal.returns
unfolding has_room
returns c = rw c.most_entries.ensures
