-- There is room for a line, so what is written of a piece is all of it.
use Rattle.std.proofs.Common.{◌≤◌, length, rules}
use Rattle.lines.specs.Line.{line_most}
use Rattle.readday.proofs.Written.{none_written, piece_written, all_written}
use Rattle.readday.proofs.write_text.Goals as goal

pub loop-at-init : goal.loop-at-init
loop-at-init g c = none_written c.args.sheet.now _ c.zero_register-register.ensures

pub loop-at-preserved : goal.loop-at-preserved
loop-at-preserved g c =
    let room : line_most ≤ length c.loop-at.text = search rules in
    piece_written c.args.sheet.now _ c.loop-at.invariant c.in_ok-write_all.ensures.bytes (c.play_from-p.ensures.text_is room)

pub returns : goal.returns
returns g c = all_written c.args.sheet.now c.loop-at.invariant c.loop-at-test.false
