-- 00, demand 1: what a call writes and what a refusal answers, on EVERY register, of any length and with any bytes.
use Rattle.std.specs.Prelude.{◌≡◌, true, false, List, ℕ, suc, pos, length, take, drop, Some}
use Rattle.terms.specs.declared.submission.Submission.{Submission}
use Rattle.terms.specs.Entry.{kind_held}
use Rattle.terms.specs.Number.{accepted}
use Rattle.register.specs.Area.{area_of}
use Rattle.register.specs.Head.{entry_offset}
use Rattle.journal.specs.Journal.{journal_of, kept, held_of}
use Rattle.calls.specs.declared.call.Call.{Call}
use Rattle.calls.specs.declared.call.Call.TheVariants.{Enrol, Submit, Withdraw, Report as ReportCall, Fold, Trial}
use Rattle.calls.specs.declared.call.Reply.{Reply}
use Rattle.calls.specs.declared.call.Reply.TheVariants.{Answered, Reported}
use Rattle.calls.specs.Checks.{taken_flag}
use Rattle.calls.specs.Calls.{entry_for, is_volume_query, place_of, step}
use Rattle.calls.specs.Play.{number_of, may_change}

-- "zeros in the other fields"
unfoldable pub HasZeros : Reply → Type 0
HasZeros (Answered a) = (a.flag ≡ 0) × (a.advance ≡ pos 0)
HasZeros (Reported r) = (r.standing ≡ 0) × (r.flagged ≡ 0) × (r.total ≡ pos 0)

-- the held read is stored after the standing and withdrawn entries, and no other byte of the area is another
pub record StoresHeld (s : Submission) (before after : List ℕ) : Type 0 where
  pub held : held_of (journal_of after).entries ≡ Some (entry_for kind_held s (taken_flag s (journal_of before)))
  pub below : take (entry_offset before (kept (journal_of before).entries)) after ≡ take (entry_offset before (kept (journal_of before).entries)) before
  pub above : drop (entry_offset before (suc (kept (journal_of before).entries))) after ≡ drop (entry_offset before (suc (kept (journal_of before).entries))) before

-- only a submission is answered 19 or 20, and a trial of one, which stores nothing
unfoldable pub Stores : Call → List ℕ → List ℕ → Type 0
Stores (Submit place read) before after = StoresHeld read before after
Stores (Enrol place profile dials capacity) before after = ⊥
Stores (Withdraw place day value) before after = ⊥
Stores (ReportCall place) before after = ⊥
Stores (Fold place) before after = ⊥
Stores (Trial place read) before after = after ≡ before

-- what holds of one call
module _ (call : Call) (register : List ℕ) where
  abbrev pub reply : Reply
  reply = (step call register).reply

  abbrev pub after : List ℕ
  after = (step call register).register

  pub record CallHolds : Type 0 where
    -- "No refusal writes a byte, except that a volume query (19, 20) .."
    pub unwritten : may_change (number_of reply) ≡ false → after ≡ register
    -- ".. stores the held read."
    pub stored : is_volume_query (number_of reply) ≡ true → Stores call (area_of (place_of call) register) (area_of (place_of call) after)
    -- "Each refusal has its number, with flag and advance 0."
    pub zeros : (number_of reply ≡ accepted → ⊥) → HasZeros reply
    -- accepted or not, no call writes outside the area that it names
    pub elsewhere : (p : ℕ) → (place_of call ≡ p → ⊥) → area_of p after ≡ area_of p register
    pub size : length after ≡ length register

-- THE CLAIM, for every call and every register
unfoldable pub DemandOne : Type 0
DemandOne = (call : Call) (register : List ℕ) → CallHolds call register
