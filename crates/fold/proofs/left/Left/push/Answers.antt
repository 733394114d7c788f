-- The entry goes after those that are counted.
use native.Mathlib.Omega.{arith}
use Rattle.journal.specs.Journal.{put_entries, area_for}
use Rattle.fold.proofs.left.Left.push.Goals as goal

pub returns : goal.returns
unfolding put_entries area_for
returns c = λ head es is.
    record {
      head_is = is.head_is;
      count_is = omega (arith, is.count_is);
      area_is = rw (c.put_entry.ensures, c.offset_after-offset.ensures, is.area_is, is.head_is, is.count_is);
    }
