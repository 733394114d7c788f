-- The test is the definition's.
use borrow.Author.Tests.{eq-eqb, ne_eqb}
use Rattle.terms.specs.Profile.{meter_kind, profile_of}
use Rattle.terms.proofs.profile.profile_of.Goals as goal

pub returns-then-kind : goal.returns-then-kind
unfolding profile_of meter_kind
returns-then-kind c = rw (eq-eqb _ _ c.if-kind.true)

pub returns : goal.returns
unfolding profile_of meter_kind
returns c = rw (ne_eqb _ _ c.if-kind.false)
