-- The year of the day's date, and its length.
use mathlib.Core.Path.{ap, ◌∙◌}
use Rattle.calendar.specs.Year.{year_length}
use Rattle.rules.specs.Volume.{days_in_year}
use Rattle.rules.proofs.volume.days_in_year.Goals as goal

pub returns : goal.returns
unfolding days_in_year
returns c = c.year_length.ensures ∙ ap year_length c.year_of.ensures
