-- What one more entry changes is `pass_more`.
use mathlib.Core.Path.{refl}
use Rattle.judge.proofs.Passes.{pass_more, order_more, pass_run}
use Rattle.judge.proofs.pass.pass_with.Goals as goal

pub returns-then-not-follows : goal.returns-then-not-follows
returns-then-not-follows c = λ es same. rw (order_more _ _ _ es same, ← c.may_follow-follows.ensures c.args.body.limit_is, c.if-not-follows.true)

pub returns : goal.returns
returns c =
    record {
      apart = refl;
      run = λ es h. c.count.ensures es h;
      same = λ es h. rw (pass_more c.args.pass.apart, ← h, c.count.ensures es (pass_run _ es h), c.is_standing.ensures, c.is_held.ensures, c.is_final.ensures);
      ordered = λ es same o. rw (order_more _ _ _ es same, ← c.may_follow-follows.ensures c.args.body.limit_is, c.if-not-follows.false, o);
    }
