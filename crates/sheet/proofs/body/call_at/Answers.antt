-- Each form has its function, whose contract is this one's at that form, for the part of the sheet that is lent: the body.
use Rattle.std.proofs.Common.{◌∙◌}
use Rattle.sheet.specs.declared.form.Form.TheVariants.{Enrol, Submit, Withdraw}
use Rattle.sheet.proofs.Bodies.{lent}
use Rattle.sheet.proofs.body.call_at.Goals as goal

pub returns-in-Enrol : goal.returns-in-Enrol
returns-in-Enrol c = rw c.in-Enrol.is (c.enrol_at.ensures ∙ lent _ _ (Enrol _))

pub returns-in-Submit : goal.returns-in-Submit
returns-in-Submit c = rw c.in-Submit.is (c.submit_at.ensures ∙ lent _ _ Submit)

pub returns-in-Withdraw : goal.returns-in-Withdraw
returns-in-Withdraw c = rw c.in-Withdraw.is (c.withdraw_at.ensures ∙ lent _ _ Withdraw)
