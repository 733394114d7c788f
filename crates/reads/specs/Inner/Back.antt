-- Some entries of a body, without those after the last standing one.
use Rattle.std.specs.Prelude.{◌≡◌, true, List, ℕ, suc, ◌≤◌}
use Rattle.terms.specs.Entry.{is_standing}
use Rattle.register.specs.Entries.{entry_start, entry_at}
use Rattle.journal.specs.Journal.{entries_to, standing}

-- the first r of m entries have the same standing ones, and the last of them stands if there is one
pub record EndsStanding (body : List ℕ) (m r : ℕ) : Type 0 where
  pub fewer : r ≤ m
  pub same : standing (entries_to r body) ≡ standing (entries_to m body)
  pub stands : (k : ℕ) → r ≡ suc k → is_standing (entry_at body (entry_start k)) ≡ true
