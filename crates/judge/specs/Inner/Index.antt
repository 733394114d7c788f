-- The withdrawn reads by day and value, so that a read is told apart from them by a look at one bucket.
use Rattle.std.specs.Prelude.{◌≡◌, Bool, true, false, ◌&&◌, ◌||◌, cond, List, ℕ, ◌+◌, ◌%◌, ◌<◌, eqb, length, get_or, set}
use Rattle.terms.specs.declared.entry.Entry.{Entry}
use Rattle.terms.specs.Entry.{is_standing, is_withdrawn}
use Rattle.register.specs.Entries.{entry_start, entry_at}
use Rattle.journal.specs.Journal.{standing, withdrawn}
use Rattle.journal.specs.Sound.{any, has_read}

-- the bucket of a read
unfoldable pub bucket_of : ℕ → ℕ → ℕ
bucket_of day value = (day + value % 256) % 256

abbrev pub bucket_for : Entry → ℕ
bucket_for e = bucket_of e.day e.value

-- what a bucket has into which more than one entry was put
abbrev pub crowded : ℕ
crowded = 255

-- the entry after k others, put into a bucket. Positions are counted from 1, since 0 is a bucket that has none.
unfoldable pub put_in : List ℕ → ℕ → ℕ → List ℕ
put_in index bucket k = set index bucket (cond (eqb (get_or index bucket 0) 0) (k + 1) crowded)

abbrev pub buckets : ℕ
buckets = 256

-- each withdrawn one of the first k entries is in its bucket, alone or among others
pub record Indexed (body : List ℕ) (k : ℕ) (index : List ℕ) : Type 0 where
  pub long : length index ≡ buckets
  pub put : (i : ℕ) → i < k → is_withdrawn (entry_at body (entry_start i)) ≡ true → (get_or index (bucket_for (entry_at body (entry_start i))) 0 ≡ crowded → ⊥) → get_or index (bucket_for (entry_at body (entry_start i))) 0 ≡ i + 1

-- what a bucket has is not crowded, and no withdrawn entry of this day and value
pub record Clear (body : List ℕ) (there day value : ℕ) : Type 0 where
  pub sparse : there ≡ crowded → ⊥
  pub other : (i : ℕ) → there ≡ i + 1 → is_withdrawn (entry_at body (entry_start i)) ≡ true → has_read day value (entry_at body (entry_start i)) ≡ false

-- an entry has the day and the value of a withdrawn one before it, if it stands, and of a standing one, if it is withdrawn
unfoldable pub clashes : Entry → List Entry → Bool
clashes e es =
    (is_standing e && any (has_read e.day e.value) (withdrawn es))
    || (is_withdrawn e && any (has_read e.day e.value) (standing es))
