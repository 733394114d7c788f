-- What is written is the text of what was read.
use Rattle.std.specs.Io.KnownBytes.{Appends}
use Rattle.calls.specs.Play.{zero_register}
use Rattle.input.proofs.Whole.{of_whole}
use Rattle.playing.specs.Whole.{text_from, text_of}
use Rattle.readday.proofs.run.Goals as goal

pub returns : goal.returns
unfolding text_of
returns g c =
    let written = Appends (g.W.Write.contents c.args.output.now) (g.W.Write.contents c.write_text.new.output) in
    of_whole (λ split. written (text_from split zero_register)) _ _ _ c.in_ok-length.ensures.whole c.write_text.ensures
