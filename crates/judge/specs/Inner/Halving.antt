-- The standing entries of a body by their places, among which a day is looked up by halving.
use Rattle.std.specs.Prelude.{List, ℕ, cond, map, ltb}
use Rattle.std.specs.List.{fold}
use Rattle.terms.specs.declared.entry.Entry.{Entry}
use Rattle.register.specs.Entries.{entry_start, entry_at, zero_entry}
use Rattle.judge.specs.declared.body.Body.{Body}
use Rattle.judge.specs.Inner.Marks.{mark_on}

-- what is read at a place among the first m: the entry there, and zeros past these
abbrev pub seen : Body → ℕ → ℕ → Entry
seen b m k = cond (ltb k m) (entry_at b.bytes.now (entry_start k)) zero_entry

-- the entries at places among the first m, in the order of these
abbrev pub placed : Body → ℕ → List ℕ → List Entry
placed b m places = map (seen b m) places

-- a mark for the value of each
abbrev pub value_marks : List Entry → ℕ
value_marks ss = fold (λ marks s. mark_on marks s.value) 0 ss
