-- A line in three parts, or none.
use Rattle.std.proofs.Common.{rules}
use Rattle.journals.proofs.Lines.{line_written, no_line}
use Rattle.journals.proofs.print_journal.Goals as goal

pub returns-then-is_empty : goal.returns-then-is_empty
returns-then-is_empty g c = no_line (g.W.Write.contents c.args.output.now) c.args.place c.args.part.now (search rules)

pub returns : goal.returns
returns g c =
    line_written _ _ _ _ _ c.args.place c.args.part.now (search rules) c.in_ok-write.ensures.bytes c.in_ok-print_bytes.ensures c.writeln.ensures.bytes
