-- Each test decides one clause of a sound journal, once those before it hold.
use mathlib.Core.Path.{sym, ◌∙◌}
use Rattle.judge.proofs.Passes.{passed_few}
use Rattle.judge.proofs.Verdicts.{clashing, miscarried, then_ends}
use Rattle.judge.proofs.area.is_whole.Goals as goal

pub is_apart-requires : goal.is_apart-requires
is_apart-requires c = (passed_few c.args.body c.requires, c.requires.1)

pub returns-then-not-is_apart : goal.returns-then-not-is_apart
returns-then-not-is_apart c = clashing _ _ _ c.requires (sym c.is_apart.ensures ∙ c.if-not-is_apart.true)

pub carries_right-requires : goal.carries_right-requires
carries_right-requires c = passed_few c.args.body c.requires

pub returns-then-not-carries_right : goal.returns-then-not-carries_right
returns-then-not-carries_right c = miscarried _ _ _ c.requires (sym c.is_apart.ensures ∙ c.if-not-is_apart.false) (sym c.carries_right.ensures ∙ c.if-not-carries_right.true)

pub returns : goal.returns
returns c =
    c.is_zero_from.ensures
    ∙ then_ends _ _ _ c.requires (sym c.is_apart.ensures ∙ c.if-not-is_apart.false) (sym c.carries_right.ensures ∙ c.if-not-carries_right.false)
