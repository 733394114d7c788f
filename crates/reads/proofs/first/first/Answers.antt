-- The carry's value or the first standing one, as the definition has it.
use mathlib.Core.Path.{◌≡◌, sym, ap, ◌∙◌}
use mathlib.Core.Bool.{Bool, cond}
use Rattle.journal.specs.Journal.{Journal, standing}
use Rattle.journal.specs.Total.{first_in}
use Rattle.judge.specs.declared.area.Summary.{Summary}
use Rattle.judge.specs.Inner.Judged.{counts_of, summary_of}
use Rattle.reads.proofs.first.first.Goals as goal

by_summary : (j : Journal) (t : Summary) → t ≡ summary_of j → cond t.head.carried t.head.carry.first t.counts.first ≡ first_in j.head (standing j.entries)
unfolding first_in summary_of counts_of
by_summary j t e = rw e

pub returns-then-t : goal.returns-then-t
returns-then-t c = λ j e.
    let t = c.args.t in
    sym (ap (λ (b : Bool). cond b t.head.carry.first t.counts.first) c.if-t.true) ∙ by_summary j t e

pub returns : goal.returns
returns c = λ j e.
    let t = c.args.t in
    sym (ap (λ (b : Bool). cond b t.head.carry.first t.counts.first) c.if-t.false) ∙ by_summary j t e
