-- The first test that holds decides, in the definition's order.
use mathlib.Core.Path.{◌≡◌, sym, ◌∙◌}
use mathlib.Core.Bool.{false}
use Rattle.rules.specs.Detection.{is_not_rollover, detected}
use borrow.Author.Rules.{rules}
use Rattle.rules.proofs.detection.detect.Statement.{statement}
use Rattle.rules.proofs.detection.detect.Tie as tie

step_back : (c : tie.Else-is_not_rollover) → is_not_rollover c.before.before.args.n c.before.before.args.s c.before.before.args.recent.last ≡ false
step_back c = sym c.before.is_not_rollover.ensures ∙ c.if-is_not_rollover.false

is_not_rollover_requires : tie.Need-is_not_rollover-requires
is_not_rollover_requires c κs = search rules

returns : tie.Need-returns-then-is_not_rollover
unfolding detected
returns c = rw (← c.before.is_not_rollover.ensures, c.if-is_not_rollover.true)

is_rollover_requires : tie.Need-is_rollover-requires
is_rollover_requires c κs = search rules

returns_2 : tie.Need-returns-then-is_rollover
unfolding detected
returns_2 c = rw (step_back c.before.before, ← c.before.is_rollover.ensures, c.if-is_rollover.true)

returns_3 : tie.Need-returns
unfolding detected
returns_3 c = rw (step_back c.before.before, ← c.before.is_rollover.ensures, c.if-is_rollover.false)

pub detect_spec : {M : Type 1} → statement M
detect_spec =
    tie.close
    (tie.spec
    is_not_rollover_requires
    returns
    is_rollover_requires
    returns_2
    returns_3)
