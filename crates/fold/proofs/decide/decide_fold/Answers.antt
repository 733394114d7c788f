-- By what the area is judged to be, and for a sound journal by whether it may be folded.
use mathlib.Core.Path.{sym, ◌∙◌}
use Rattle.terms.specs.Refusal.{number_of}
use Rattle.terms.proofs.Refusals.{passed_on}
use Rattle.fold.proofs.Decided.{area_refused, by_journal}
use Rattle.fold.proofs.decide.decide_fold.Goals as goal

pub returns-in_err-judged : goal.returns-in_err-judged
returns-in_err-judged c =
    rw (passed_on _ c.from_residual.ensures.1)
    (record { number_is = area_refused c.args.area.now c.requires c.in_err-judged.ensures; area_is = tt })

pub returns-then-is_no_fold : goal.returns-then-is_no_fold
unfolding number_of
returns-then-is_no_fold c =
    let may = sym c.is_no_fold.ensures ∙ c.if-is_no_fold.true in
    record { number_is = rw (← by_journal c.args.area.now c.requires c.in_ok-judged.ensures, ← c.in_ok-judged.ensures.area_is, may); area_is = tt }

pub returns : goal.returns
returns c =
    let may = sym c.is_no_fold.ensures ∙ c.if-is_no_fold.false in
    record {
      number_is = rw (← by_journal c.args.area.now c.requires c.in_ok-judged.ensures, ← c.in_ok-judged.ensures.area_is, may);
      area_is = c.in_ok-judged.ensures.area_is;
    }
