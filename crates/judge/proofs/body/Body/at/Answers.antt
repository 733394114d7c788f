-- The entry ends within the body, and each field is read where the definition has it.
use Rattle.register.specs.Entries.{entry_at}
use Rattle.judge.proofs.body.Body.at.Goals as goal

pub returns : goal.returns
unfolding entry_at
returns c = rw (c.word_at-day.ensures, c.long_at-value.ensures)
