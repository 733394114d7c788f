-- 02, 3: examples that fix what the definitions of the search mean.
use Rattle.std.specs.Prelude.{◌≡◌, List, [], ◌∷◌, ℕ, Option, Some, None}
use Rattle.terms.specs.declared.entry.Entry.{Entry}
use Rattle.terms.specs.Entry.{kind_standing, kind_withdrawn, kind_held, indicator_not_set}
use Rattle.terms.specs.Letter.{letter_c}
use Rattle.journal.specs.Journal.{standing}
use Rattle.reads.specs.declared.search.Search.{Search}
use Rattle.reads.specs.Search.{search_from, search_answer}

-- an entry of a kind and a day, and a standing one
abbrev pub entry_of : ℕ → ℕ → Entry
entry_of kind day = record { kind = kind; day = day; value = day; letter = letter_c; indicator = indicator_not_set; flag = 0 }

abbrev pub read_of : ℕ → Entry
read_of day = entry_of kind_standing day

abbrev pub three_reads : List Entry
three_reads = read_of 460 ∷ read_of 280 ∷ read_of 100 ∷ []

abbrev pub answered : Option Entry → ℕ → Search
answered found compared = record { found = found; compared = compared }

-- the same three with withdrawn reads between them, and one that is held
abbrev pub with_others : List Entry
with_others =
    entry_of kind_held 640
    ∷ entry_of kind_withdrawn 640
    ∷ read_of 460
    ∷ entry_of kind_withdrawn 300
    ∷ read_of 280
    ∷ entry_of kind_withdrawn 280
    ∷ read_of 100
    ∷ []

pub record SearchExamples : Type 0 where
  pub after_newest : search_answer 461 three_reads ≡ answered None 1
  pub on_newest : search_answer 460 three_reads ≡ answered (Some (read_of 460)) 1
  pub before_newest : search_answer 459 three_reads ≡ answered None 2
  pub on_middle : search_answer 280 three_reads ≡ answered (Some (read_of 280)) 2
  pub before_middle : search_answer 279 three_reads ≡ answered None 3
  pub on_oldest : search_answer 100 three_reads ≡ answered (Some (read_of 100)) 3
  -- none is left that is not later
  pub before_oldest : search_answer 99 three_reads ≡ answered None 3
  -- withdrawn and held ones are not compared
  pub others_passed_over : search_answer 280 (standing with_others) ≡ answered (Some (read_of 280)) 2
  -- where none stands nothing is compared
  pub none_stands : search_answer 100 [] ≡ answered None 0
  -- the way it goes, on days that no sound journal has: it ends at the first day that is not later, whatever the older reads are
  pub ends_at_smaller : search_from 100 0 (read_of 460 ∷ read_of 99 ∷ read_of 100 ∷ []) ≡ answered None 2
  pub ends_at_equal : search_from 100 0 (read_of 100 ∷ read_of 460 ∷ []) ≡ answered (Some (read_of 100)) 1
