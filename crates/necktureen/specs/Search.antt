-- 02, 3, Earlier stop in the same-day search: what a program in C is told of a search. The find is 1 with the fields of the read that stands on
-- the day, or 0 with zeros.
use Rattle.terms.specs.declared.entry.Entry.{Entry}
use Rattle.std.specs.Prelude.{ℕ, Option, Some, None}
use Rattle.meter.specs.Search.{Searched}
use Rattle.necktureen.specs.declared.search.SearchFields.{SearchFields}

abbrev pub search_fields : ℕ → ℕ → ℕ → ℕ → ℕ → ℕ → ℕ → SearchFields
search_fields number found value letter indicator flag compared =
    record {
      number = number;
      found = found;
      value = value;
      letter = letter;
      indicator = indicator;
      flag = flag;
      compared = compared;
    }

unfoldable pub fields_with : ℕ → Option Entry → ℕ → SearchFields
fields_with number (Some e) compared = search_fields number 1 e.value e.letter e.indicator e.flag compared
fields_with number None compared = search_fields number 0 0 0 0 0 compared

abbrev pub fields_of : Searched → SearchFields
fields_of s = fields_with s.number s.found s.compared
