-- Plain entries: those that few of the rules concern.
use Rattle.std.specs.Prelude.{◌≡◌, Bool, true, false, List, [], ◌∷◌, ℕ, ◌+◌, ◌-◌, ◌≤◌, ◌<◌}
use Rattle.terms.specs.declared.entry.Entry.{Entry}
use Rattle.terms.specs.Entry.{indicator_true, is_standing, is_withdrawn, slot_at}
use Rattle.terms.specs.Letter.{is_known, is_opening, is_final}
use Rattle.register.specs.declared.head.Head.{Head}
use Rattle.judge.specs.declared.body.Body.{Body}
use Rattle.judge.specs.declared.run.Run.{Run}
use Rattle.journal.specs.Journal.{count_from, standing, withdrawn, held_of, is_there}
use Rattle.journal.specs.Sound.{any, is_final_read, has_read, are_in_order, are_apart}
use Rattle.judge.specs.Inner.Profile.{takes_all}
use Rattle.judge.specs.Inner.Index.{Indexed}
use Rattle.judge.specs.Inner.Run.{firsts, run_of, IsRun}

-- a type that neither opens a journal nor ends one
pub record PlainLetter (l : ℕ) : Type 0 where
  pub known : is_known l ≡ true
  pub inner : is_opening l ≡ false
  pub unending : is_final l ≡ false

-- a body that may follow whatever stands, after the day of the last standing read
pub record PlainBody (limit last : ℕ) (e : Entry) : Type 0 where
  pub later : last < e.day
  pub small : e.value < limit
  pub letter : PlainLetter e.letter
  pub indicator : e.indicator ≤ indicator_true
  pub flag : e.flag ≡ 0

pub record Plain (limit last : ℕ) (e : Entry) : Type 0 where
  pub stands : is_standing e ≡ true
  pub body : PlainBody limit last e

-- some entries are in order, a read stands, and none is held; whether an F stands, and, if `clear`, standing reads are apart from withdrawn
-- ones
pub record IsOpen (head : Head) (ended clear : Bool) (es : List Entry) : Type 0 where
  pub ordered : are_in_order head es ≡ true
  pub stands : is_there (slot_at (standing es) 0) ≡ true
  pub unheld : is_there (held_of es) ≡ false
  pub ended_is : any is_final_read (standing es) ≡ ended
  pub apart : clear ≡ true → are_apart (standing es) (withdrawn es) ≡ true

-- a run with one plain entry more, of a meter that takes every type
pub record OneOn (head : Head) (es : List Entry) (run : Run) (e : Entry) (r : Run) : Type 0 where
  pub count : r.count ≡ run.count + 1
  pub kind : e.kind ≡ 0 → ⊥
  pub run_is : run ≡ run_of es → r ≡ run_of (e ∷ es)
  pub opened : (ended clear : Bool) → takes_all head.profile ≡ true → run ≡ run_of es → IsOpen head ended clear es → IsOpen head ended clear (e ∷ es)

-- a plain entry after k others, withdrawn, or with no read of a withdrawn one
pub record PlainNext (b : Body) (k last : ℕ) (e : Entry) : Type 0 where
  pub body : PlainBody b.limit last e
  pub clear : is_standing e ≡ true → any (has_read e.day e.value) (withdrawn (firsts b k)) ≡ false
  pub other : is_standing e ≡ false → is_withdrawn e ≡ true

-- a run over plain entries of a body, to another
pub record RunsTo (b : Body) (run r : Run) : Type 0 where
  pub more : run.count ≤ r.count
  pub runs : IsRun b r
  pub goes : count_from (b.most - run.count) run.count b.bytes.now ≡ count_from (b.most - r.count) r.count b.bytes.now
  pub opened : (ended clear : Bool) → takes_all b.head.profile ≡ true → IsOpen b.head ended clear (firsts b run.count) → IsOpen b.head ended clear (firsts b r.count)

-- the same over standing ones alone, where a read stands
pub record StandsTo (b : Body) (run r : Run) : Type 0 where
  pub runs : RunsTo b run r
  pub some : r.standing ≡ 0 → ⊥
  pub indexed : (index : List ℕ) → Indexed b.bytes.now run.count index → Indexed b.bytes.now r.count index
  pub none : withdrawn (firsts b run.count) ≡ [] → withdrawn (firsts b r.count) ≡ []
