-- What is written is the journals that the sheet leaves.
use Rattle.std.specs.Io.KnownBytes.{Appends}
use Rattle.calls.specs.Play.{register_after, zero_register}
use Rattle.input.proofs.Whole.{of_whole}
use Rattle.journals.specs.Text.{journals_text}
use Rattle.journals.proofs.run.Goals as goal

pub returns : goal.returns
returns g c =
    let written = Appends (g.W.Write.contents c.args.output.now) (g.W.Write.contents c.print_journals.new.output) in
    of_whole (λ split. written (journals_text (register_after split.calls zero_register))) _ _ _ c.in_ok-length.ensures.whole
    (rw (← c.zero_register-register.ensures, ← c.play.ensures.register_is) c.print_journals.ensures)
