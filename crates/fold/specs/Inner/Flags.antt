-- How many of the last three reads are flagged, where they exist.
use Rattle.std.specs.Prelude.{cond, ℕ, ◌+◌, Option, Some, None}
use Rattle.terms.specs.declared.entry.Entry.{Entry}
use Rattle.terms.specs.declared.entry.Recent.{Recent}
use Rattle.journal.specs.Journal.{is_flagged}

unfoldable pub flag_in : Option Entry → ℕ
flag_in (Some e) = cond (is_flagged e) 1 0
flag_in None = 0

unfoldable pub flags_in : Recent → ℕ
flags_in kept = flag_in kept.last + flag_in kept.second + flag_in kept.third
