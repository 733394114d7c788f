-- Every example computes to what it says.
use mathlib.Core.Path.{refl}
use Rattle.terms.specs.Entry.{is_standing, those}
use Rattle.journal.specs.Journal.{on_day}
use Rattle.journal.specs.Sound.{any}
use Rattle.reads.specs.Search.{not_found, ends_at, search_from, is_later_than, is_not_later, days_compared, search_answer}
use Rattle.reads.proofs.claims.search_examples.Goals as goal

pub returns : goal.returns
unfolding is_standing those on_day any not_found ends_at search_from is_later_than is_not_later days_compared search_answer
returns c =
    record {
      after_newest = refl;
      on_newest = refl;
      before_newest = refl;
      on_middle = refl;
      before_middle = refl;
      on_oldest = refl;
      before_oldest = refl;
      others_passed_over = refl;
      none_stands = refl;
      ends_at_smaller = refl;
      ends_at_equal = refl;
    }
