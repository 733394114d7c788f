-- The fields of a reply, each with the byte after it, and the last one.
use Rattle.std.proofs.Common.{rules, arith}
use Rattle.lines.specs.Line.{line_of}
use Rattle.lines.proofs.Fields.{adds_both, adds_field, adds_last}
use Rattle.lines.proofs.text.Text.line.Goals as goal

pub returns-in-Answered : goal.returns-in-Answered
unfolding line_of
returns-in-Answered c =
    let number = adds_field c.in-Answered.a.number (omega arith) c.number.ensures.adds in
    let flag = adds_field c.in-Answered.a.flag (omega arith) c.number-in-Answered.ensures.adds in
    let advance = adds_last c.in-Answered.a.advance (search rules) c.number-in-Answered-2.ensures.adds in
    rw c.in-Answered.is (adds_both number (adds_both flag advance))

pub returns-in-Reported : goal.returns-in-Reported
unfolding line_of
returns-in-Reported c =
    let number = adds_field c.in-Reported.r.number (omega arith) c.number-in-Reported.ensures.adds in
    let standing = adds_field c.in-Reported.r.standing (omega arith) c.number-in-Reported-2.ensures.adds in
    let flagged = adds_field c.in-Reported.r.flagged (omega arith) c.number-in-Reported-3.ensures.adds in
    let total = adds_last c.in-Reported.r.total (search rules) c.number-in-Reported-4.ensures.adds in
    rw c.in-Reported.is (adds_both number (adds_both standing (adds_both flagged total)))
