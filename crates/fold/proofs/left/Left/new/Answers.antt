-- A head alone, and zeros after it.
use mathlib.Core.Path.{refl}
use Rattle.journal.specs.Journal.{put_entries, area_for}
use Rattle.fold.proofs.left.Left.new.Goals as goal

pub returns : goal.returns
unfolding put_entries area_for
returns c = record { head_is = refl; count_is = refl; area_is = c.put_head.ensures }
