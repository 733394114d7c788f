-- Every example computes to what it says; how long a line is follows from its fields.
use mathlib.Core.Path.{refl}
use Rattle.lines.specs.Decimal.{digits, digit_count_in, digit_count, decimal, signed}
use Rattle.lines.specs.Line.{field, last_field, line_of}
use Rattle.lines.proofs.Lengths.{fault_line_lem, line_most_lem}
use Rattle.lines.proofs.claims.examples_hold.Goals as goal

pub returns : goal.returns
unfolding digits digit_count_in digit_count decimal signed field last_field line_of
returns c =
    record {
      accepted = refl;
      refused = refl;
      withdrawn = refl;
      report = refl;
      negative_report = refl;
      fault = fault_line_lem;
      nine = refl;
      ten = refl;
      ninety_nine = refl;
      hundred = refl;
      least = refl;
      fits = line_most_lem;
    }
