-- The table's rule is one test over all 180 years.
use Rattle.calendar.proofs.Years.{year_starts, year_start_at}
use Rattle.calendar.proofs.starts.year_start.Goals as goal

pub returns : goal.returns
unfolding year_starts
returns c = year_start_at c.args.years c.requires
