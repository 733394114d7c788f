-- What the pass over a body's entries carries, and what is true of it.
use Rattle.std.specs.Prelude.{◌≡◌, Bool, true, false, ◌&&◌, List, [], ◌∷◌, ℕ, ◌-◌, ◌≤◌, ◌<◌, Option, Some, None}
use Rattle.terms.specs.declared.entry.Entry.{Entry}
use Rattle.terms.specs.Entry.{is_standing}
use Rattle.terms.specs.Letter.{is_opening}
use Rattle.register.specs.declared.head.Head.{Head}
use Rattle.register.specs.Bytes.{byte_at}
use Rattle.register.specs.Entries.{entry_start}
use Rattle.judge.specs.declared.body.Body.{Body}
use Rattle.judge.specs.declared.pass.Pass.{Pass}
use Rattle.judge.specs.declared.passed.Passed.{Passed}
use Rattle.judge.specs.declared.run.Run.{Run}
use Rattle.journal.specs.Journal.{entries_to, count_from, standing, withdrawn, held_of, is_there}
use Rattle.journal.specs.Sound.{any, is_final_read, has_read, days_rise, are_in_order, are_apart}
use Rattle.judge.specs.Inner.Index.{clashes, Indexed}
use Rattle.judge.specs.Inner.Judged.{count_in}
use Rattle.judge.specs.Inner.Run.{firsts, run_of, IsRun}

unfoldable pub pass_of : Bool → List Entry → Pass
pass_of clear es =
    record {
      run = run_of es;
      held = is_there (held_of es);
      ended = any is_final_read (standing es);
      apart = clear;
    }

-- the first entries of a body are in order, and the pass is of these
pub record IsPass (head : Head) (body : List ℕ) (p : Pass) : Type 0 where
  pub same : p ≡ pass_of p.apart (entries_to p.run.count body)
  pub ordered : are_in_order head (entries_to p.run.count body) ≡ true
  pub apart : p.apart ≡ true → are_apart (standing (entries_to p.run.count body)) (withdrawn (entries_to p.run.count body)) ≡ true

-- a pass with one entry more, and none where the entry may not follow
pub record Follows (head : Head) (p : Pass) (clear : Bool) (e : Entry) (q : Pass) : Type 0 where
  pub apart : q.apart ≡ p.apart && clear
  pub run : (es : List Entry) → p.run ≡ run_of es → q.run ≡ run_of (e ∷ es)
  pub same : (es : List Entry) → p ≡ pass_of p.apart es → q ≡ pass_of q.apart (e ∷ es)
  pub ordered : (es : List Entry) → p ≡ pass_of p.apart es → are_in_order head es ≡ true → are_in_order head (e ∷ es) ≡ true

abbrev pub OneMore : Head → Pass → Bool → Entry → Option Pass → Type 0
OneMore head p clear e (Some q) = Follows head p clear e q
OneMore head p clear e None = (es : List Entry) → p ≡ pass_of p.apart es → are_in_order head (e ∷ es) ≡ false

-- the pass over all entries of a body, and none where they are not in order
abbrev pub IsPassed : Head → List ℕ → Option Pass → Type 0
IsPassed head body (Some p) = (p.run.count ≡ count_in head body) × IsPass head body p
IsPassed head body None = are_in_order head (entries_to (count_in head body) body) ≡ false

-- with it, whether a read is among the withdrawn ones
abbrev pub HasPassed : Head → List ℕ → ℕ → ℕ → Option Passed → Type 0
HasPassed head body day value (Some r) = IsPassed head body (Some r.pass) × (r.withdrawn ≡ any (has_read day value) (withdrawn (entries_to r.pass.run.count body)))
HasPassed head body day value None = IsPassed head body None

-- a read that opens a journal, with no indicator
pub record First (limit : ℕ) (e : Entry) : Type 0 where
  pub stands : is_standing e ≡ true
  pub dated : e.day ≡ 0 → ⊥
  pub small : e.value < limit
  pub opening : is_opening e.letter ≡ true
  pub indicator : e.indicator ≡ 0
  pub flag : e.flag ≡ 0

-- a pass over the start of a body, where none is withdrawn
pub record Starts (b : Body) (p : Pass) : Type 0 where
  pub few : p.run.count ≤ b.most
  pub goes : count_from (b.most - p.run.count) p.run.count b.bytes.now ≡ count_from b.most 0 b.bytes.now
  pub pass : IsPass b.head b.bytes.now p
  pub none : withdrawn (firsts b p.run.count) ≡ []

-- a pass with the plain entries that follow
pub record PassesTo (b : Body) (p q : Pass) : Type 0 where
  pub more : p.run.count ≤ q.run.count
  pub runs : IsRun b q.run
  pub goes : count_from (b.most - p.run.count) p.run.count b.bytes.now ≡ count_from (b.most - q.run.count) q.run.count b.bytes.now
  pub pass : IsPass b.head b.bytes.now p → IsPass b.head b.bytes.now q

-- whether one entry more is clear of those passed
abbrev pub IsClear : List ℕ → Run → Entry → Bool → Type 0
IsClear body run e clear = clear ≡ true → run ≡ run_of (entries_to run.count body) → days_rise (standing (entries_to run.count body)) ≡ true → clashes e (entries_to run.count body) ≡ false

-- more entries than those of a pass, to the first k, up to a zero kind byte
pub record Reaches (b : Body) (p : Pass) (k : ℕ) : Type 0 where
  pub more : p.run.count < k
  pub few : k ≤ b.most
  pub goes : (byte_at b.bytes.now (entry_start p.run.count) ≡ 0 → ⊥) → count_from (b.most - p.run.count) p.run.count b.bytes.now ≡ count_from (b.most - k) k b.bytes.now

-- a pass with more entries, and the index with them
pub record Extends (b : Body) (p q : Pass) (index : List ℕ) : Type 0 where
  pub reaches : Reaches b p q.run.count
  pub run_is : q.run ≡ run_of (firsts b q.run.count)
  pub pass : IsPass b.head b.bytes.now p → IsPass b.head b.bytes.now q
  pub indexed : Indexed b.bytes.now q.run.count index

-- it goes on with more entries, and ends where these are not in order
abbrev pub GoesOn : Body → Pass → Option Pass → List ℕ → Type 0
GoesOn b p (Some q) index = Extends b p q index
GoesOn b p None index = (k : ℕ) × Reaches b p k × (IsPass b.head b.bytes.now p → are_in_order b.head (firsts b k) ≡ false)
