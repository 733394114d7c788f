-- What is left of the sheet, played on what the turns so far left, makes the whole of it; at the end nothing is left.
use Rattle.std.proofs.Common.{refl, rules}
use Rattle.playing.proofs.Turns.{begun, turned, over, over_long}
use Rattle.playing.proofs.whole.play.Goals as goal

pub returns-then-sheet-gt-SHEET_MOST : goal.returns-then-sheet-gt-SHEET_MOST
returns-then-sheet-gt-SHEET_MOST c = over_long c.if-sheet-gt-SHEET_MOST.true c.put_fault.ensures

pub loop-play-init : goal.loop-play-init
loop-play-init c = begun _ _ refl refl c.if-sheet-gt-SHEET_MOST.false

pub loop-play-preserved : goal.loop-play-preserved
loop-play-preserved c = turned _ _ c.loop-play.invariant c.loop-play-test.true c.turn.ensures.kept c.turn.ensures.turned

pub returns : goal.returns
returns c = over _ _ c.loop-play.invariant (search rules) (search rules) refl c.loop-play-test.false
