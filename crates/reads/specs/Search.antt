-- 02, 3: "The search for a standing read of the submitted day". Lists are of standing reads, the newest first: those of a journal are
-- `standing` of its entries, so withdrawn and held ones are passed over, and not compared.
use Rattle.std.specs.Prelude.{◌≡◌, Bool, true, cond, List, [], ◌∷◌, ℕ, ◌+◌, eqb, leb, ltb, length, None}
use Rattle.terms.specs.declared.entry.Entry.{Entry}
use Rattle.terms.specs.Entry.{those}
use Rattle.journal.specs.Journal.{slot_if, on_day}
use Rattle.journal.specs.Sound.{any, days_rise}
use Rattle.reads.specs.declared.search.Search.{Search}

-- ---- the way it goes, with how many days were compared before
unfoldable pub not_found : ℕ → Search
not_found compared = record { found = None; compared = compared }

-- a standing read that is not later ends it: the read of that day is found, and of a smaller day none
unfoldable pub ends_at : ℕ → ℕ → Entry → Search
ends_at day compared s = record { found = slot_if (eqb s.day day) s None; compared = compared + 1 }

-- "goes from the newest back and ends at that day or as soon as a standing day is smaller"
unfoldable pub search_from : ℕ → ℕ → List Entry → Search
search_from day compared [] = not_found compared
search_from day compared (s ∷ ss) =
    cond (leb s.day day) (ends_at day compared s) (search_from day (compared + 1) ss)

-- ---- what it answers
unfoldable pub is_later_than : ℕ → Entry → Bool
is_later_than day s = ltb day s.day

unfoldable pub is_not_later : ℕ → Entry → Bool
is_not_later day s = leb s.day day

-- "how many standing days it compared: those later than the submitted day, and one more if any is not later"
unfoldable pub days_compared : ℕ → List Entry → ℕ
days_compared day ss = length (those (is_later_than day) ss) + cond (any (is_not_later day) ss) 1 0

-- "With its find it answers how many standing days it compared": the find is what the rules ask for, the standing read of that day, wherever
-- it is
unfoldable pub search_answer : ℕ → List Entry → Search
search_answer day ss = record { found = on_day day ss; compared = days_compared day ss }

-- ---- "Every answer keeps its promise": the rules ask for `on_day` as before. Where standing days rise, as in every sound journal, a search
-- that goes this way answers this.
abbrev pub SearchHolds : Type 0
SearchHolds = (day : ℕ) (ss : List Entry) → days_rise ss ≡ true → search_from day 0 ss ≡ search_answer day ss
