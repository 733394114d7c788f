-- A standing entry is as its bucket says.
use mathlib.Core.Path.{sym, ◌∙◌}
use Rattle.journal.proofs.Bools.{false_is}
use Rattle.judge.proofs.run.is_plain_next.Goals as goal

pub returns-then-not-is_plain_body : goal.returns-then-not-is_plain_body
returns-then-not-is_plain_body c = λ h. false_is h

pub returns-then-is_standing : goal.returns-then-is_standing
returns-then-is_standing c =
    let stands = sym c.is_standing.ensures ∙ c.if-is_standing.true in
    λ h.
    record {
      body = c.is_plain_body.ensures c.if-not-is_plain_body.false;
      clear = λ s. c.is_clear.ensures h;
      other = λ s. false_is (sym s ∙ stands);
    }

pub returns : goal.returns
returns c =
    let stays = sym c.is_standing.ensures ∙ c.if-is_standing.false in
    λ h.
    record {
      body = c.is_plain_body.ensures c.if-not-is_plain_body.false;
      clear = λ s. false_is (sym stays ∙ s);
      other = λ s. sym c.is_withdrawn.ensures ∙ h;
    }
