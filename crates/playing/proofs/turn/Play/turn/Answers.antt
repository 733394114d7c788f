-- What stands at the position is a call, which is carried out and its line put; the end; or a fault, whose line is put.
use Rattle.std.proofs.Common.{refl, sym, ◌∙◌}
use Rattle.playing.proofs.Turns.{called, finished, faulted}
use Rattle.playing.proofs.turn.Play.turn.Goals as goal

pub returns-in-Found-clause-turned : goal.returns-in-Found-clause-turned
returns-in-Found-clause-turned c = called _ c.requires (sym c.in-Found.is ∙ c.next_at.ensures) refl c.apply-reply.ensures c.put_reply-self.ensures

pub returns-in-End-clause-turned : goal.returns-in-End-clause-turned
returns-in-End-clause-turned c = finished _ c.requires refl (sym c.in-End.is ∙ c.next_at.ensures) refl refl refl

pub returns-in-Fault-clause-turned : goal.returns-in-Fault-clause-turned
returns-in-Fault-clause-turned c = faulted _ c.requires refl (sym c.in-Fault.is ∙ c.next_at.ensures) refl c.put_fault-self.ensures
