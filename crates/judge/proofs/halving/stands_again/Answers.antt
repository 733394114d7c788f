-- Where nothing is looked up, nothing could be found.
use mathlib.Core.Path.{sym, ◌∙◌}
use mathlib.Core.Bool.{and-false}
use Rattle.terms.specs.Entry.{is_withdrawn}
use Rattle.judge.proofs.Clashes.{none_stands}
use Rattle.judge.proofs.Halved.{none_valued}
use Rattle.judge.proofs.halving.stands_again.Goals as goal

pub returns-then-not-is_withdrawn : goal.returns-then-not-is_withdrawn
returns-then-not-is_withdrawn c = rw (← c.is_withdrawn.ensures, c.if-not-is_withdrawn.true)

pub returns-then-last-e : goal.returns-then-last-e
returns-then-last-e c =
    rw (none_stands _ _ _ c.requires.rising (rw c.requires.last_day at c.if-last-e.true)) (sym (and-false (is_withdrawn c.args.e)))

pub returns-else-is_marked : goal.returns-else-is_marked
returns-else-is_marked c =
    let none = c.if-is_marked.false in
    rw (none, none_valued _ _ _ _ (rw c.requires.marks_are at (sym c.is_marked.ensures ∙ none))) (sym (and-false (is_withdrawn c.args.e)))

pub returns-then-is_marked : goal.returns-then-is_marked
returns-then-is_marked c = rw (← c.is_withdrawn.ensures, c.if-not-is_withdrawn.false) c.is_found.ensures
