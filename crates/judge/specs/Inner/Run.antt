-- What is kept of some of the entries.
use Rattle.std.specs.Prelude.{◌≡◌, List, ℕ, ◌≤◌, length}
use Rattle.terms.specs.declared.entry.Entry.{Entry}
use Rattle.terms.specs.Entry.{those, slot_at}
use Rattle.judge.specs.declared.body.Body.{Body}
use Rattle.judge.specs.declared.run.Run.{Run}
use Rattle.journal.specs.Journal.{entries_to, standing, is_flagged, first_value, newest_at, day_of}

-- the day of the last standing read, and 0 where none stands
abbrev pub last_day : List Entry → ℕ
last_day es = day_of (slot_at (standing es) 0)

unfoldable pub run_of : List Entry → Run
run_of es =
    record {
      first = first_value (standing es);
      day = last_day es;
      count = length es;
      standing = length (standing es);
      flagged = length (those is_flagged (standing es));
      newest = newest_at es;
    }

-- the first k entries of a body
abbrev pub firsts : Body → ℕ → List Entry
firsts b k = entries_to k b.bytes.now

-- a run over the first entries of a body
pub record IsRun (b : Body) (r : Run) : Type 0 where
  pub few : r.count ≤ b.most
  pub run_is : r ≡ run_of (firsts b r.count)

-- a run after plain entries alone, to a count
abbrev pub ran_to : Run → ℕ → ℕ → ℕ → ℕ → Run
ran_to from count day newest standing = record from { day = day; count = count; standing = standing; newest = newest }
