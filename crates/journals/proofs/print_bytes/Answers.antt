-- Two digits more, of a number below 256.
use Rattle.std.proofs.Common.{rules, ◌<◌, false, get_or}
use Rattle.std.proofs.lemmas.Fmt.{hex_byte}
use Rattle.std.proofs.lemmas.Grind.{common_steps}
use Rattle.journals.specs.Text.{byte_text}
use Rattle.journals.proofs.print_bytes.Goals as goal

pub loop-byte-preserved : goal.loop-byte-preserved
unfolding byte_text
loop-byte-preserved g c =
    let small : get_or c.args.bytes.now c.loop-byte.byte-index 0 < 256 = search rules in
    let digits = hex_byte false _ small in
    let byte = rw (c.laid_out.ensures, c.in_radix.ensures, digits) at c.in_ok-write.ensures.bytes in
    search (rules, common_steps)
