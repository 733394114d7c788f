-- 02, 3: "The search for a standing read of the submitted day", asked of a meter by its place: the number as a report has it, the read that
-- stands on the day, and how many standing days were compared.
use Rattle.std.specs.Prelude.{cond, List, ℕ, eqb, Option, None, Result, Ok, Err}
use Rattle.terms.specs.declared.entry.Entry.{Entry}
use Rattle.terms.specs.declared.refusal.Refusal.{Refusal}
use Rattle.terms.specs.Number.{accepted}
use Rattle.terms.specs.Refusal.{number_of}
use Rattle.terms.specs.Rule.{first_broken}
use Rattle.register.specs.Area.{area_of}
use Rattle.journal.specs.Journal.{journal_of, standing}
use Rattle.reads.specs.declared.search.Search.{Search}
use Rattle.reads.specs.Search.{search_answer}
use Rattle.calls.specs.Checks.{report_checks}
use Rattle.calls.specs.Calls.{place_number}

-- what a search answers
pub record Searched : Type 0 where
  pub number : ℕ
  pub found : Option Entry
  pub compared : ℕ

abbrev pub searched : ℕ → Option Entry → ℕ → Searched
searched number found compared = record { number = number; found = found; compared = compared }

-- "With its find it answers how many standing days it compared"
abbrev pub found_by : Search → Searched
found_by s = searched accepted s.found s.compared

-- refused: nothing is found, and no day is compared
abbrev pub refused_search : ℕ → Searched
refused_search number = searched number None 0

-- the number and values of each answer
abbrev pub as_searched : Result Search Refusal → Searched
as_searched (Ok s) = found_by s
as_searched (Err r) = refused_search (number_of r)

unfoldable pub search_in : ℕ → List ℕ → Searched
search_in day area =
    cond (eqb (first_broken (report_checks area)) accepted)
    (found_by (search_answer day (standing (journal_of area).entries)))
    (refused_search (first_broken (report_checks area)))

unfoldable pub search_of : ℕ → ℕ → List ℕ → Searched
search_of place day register =
    cond (eqb (place_number place register) accepted)
    (search_in day (area_of place register))
    (refused_search (place_number place register))
