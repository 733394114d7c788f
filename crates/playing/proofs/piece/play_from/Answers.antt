-- What the turns of a piece put, and then the text of the rest, is the text from its start on; a turn is taken only where its line fits.
use Rattle.std.proofs.Common.{refl, rules, arith}
use Rattle.playing.proofs.Pieces.{set_out, gone_on, stopped, too_long}
use Rattle.playing.proofs.piece.play_from.Goals.{then-loop-play-test+else-play-ge-LINE_MOST, else-loop-play-test}
use Rattle.playing.proofs.piece.play_from.Goals as goal

pub returns-then-sheet-gt-SHEET_MOST : goal.returns-then-sheet-gt-SHEET_MOST
returns-then-sheet-gt-SHEET_MOST c = too_long _ c.if-sheet-start.false c.if-sheet-gt-SHEET_MOST.true c.put_fault.ensures

pub loop-play-init : goal.loop-play-init
loop-play-init c = set_out _ _ refl

pub loop-play-preserved : goal.loop-play-preserved
loop-play-preserved c =
    gone_on _ _ c.loop-play.invariant c.if-sheet-gt-SHEET_MOST.false (omega (arith, c.if-play-ge-LINE_MOST.true)) c.turn.ensures.kept c.turn.ensures.turned

pub returns : goal.returns
returns c =
    stopped _ _ c.loop-play.invariant (search rules) (search rules) refl
    (λ more fit. elim c.loop-play-test.branch [
      | then-loop-play-test+else-play-ge-LINE_MOST w ↦ omega (arith, w.if-play-ge-LINE_MOST.false)
      | else-loop-play-test w ↦ omega (arith, w.loop-play-test.false)
    ])
