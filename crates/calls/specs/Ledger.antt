-- 00, demand 3, and 01, The two runs of demand 3: what is worked out from a meter's calls and the answers to them, and not from the register.
use Rattle.std.specs.Prelude.{Bool, true, false, not, ◌&&◌, ◌||◌, cond, List, [], ◌∷◌, ℕ, ◌-◌, eqb, ℤ, pos, ◌+ℤ◌, ◌-ℤ◌, length, take}
use Rattle.terms.specs.declared.answer.Answer.{Answer}
use Rattle.terms.specs.Number.{accepted}
use Rattle.calls.specs.declared.call.Call.{Call}
use Rattle.calls.specs.declared.call.Call.TheVariants.{Enrol, Submit, Withdraw, Report as ReportCall, Fold, Trial}
use Rattle.calls.specs.declared.call.Reply.{Reply}
use Rattle.calls.specs.declared.call.Reply.TheVariants.{Answered, Reported}
use Rattle.calls.specs.Fold.{reads_kept}
use Rattle.calls.specs.Play.{Exchange, number_of, names}

-- a read by its day and value
pub record Named : Type 0 where
  pub day : ℕ
  pub value : ℕ

abbrev pub named : ℕ → ℕ → Named
named day value = record { day = day; value = value }

unfoldable pub is_same_read : Named → Named → Bool
is_same_read a b = eqb a.day b.day && eqb a.value b.value

-- "takes out the read of its day and value"
unfoldable pub take_out : Named → List Named → List Named
take_out r [] = []
take_out r (s ∷ ss) = cond (is_same_read r s) ss (s ∷ take_out r ss)

-- What a meter's accepted calls come to. The lists have the newest first, so that the paper's end of a list is its front.
pub record Ledger : Type 0 where
  -- "A meter's standing reads after a run"
  pub standing : List Named
  -- "the advances answered to the meter's accepted submissions and withdrawals"
  pub advances : ℤ
  -- "accepted submissions flagged rollover less accepted withdrawals so flagged"
  pub flags : ℤ
  -- "n is from the meter's accepted enrolment"
  pub dials : ℕ
  -- the day and value that each accepted withdrawal named
  pub withdrawn : List Named
  -- 02, 2: how many of the standing reads, its first ones, were folded
  pub folded : ℕ

-- "It starts empty."
unfoldable pub empty_ledger : Ledger
empty_ledger = record { standing = []; advances = pos 0; flags = pos 0; dials = 0; withdrawn = []; folded = 0 }

-- "flagged means answered with flag 1"
unfoldable pub flag_of : Answer → ℤ
flag_of a = cond (eqb a.flag 1) (pos 1) (pos 0)

-- "An accepted submission puts its day and value at the end. An accepted withdrawal takes out the read of its day and value."
unfoldable pub entered : Call → Reply → Ledger → Ledger
entered (Enrol place profile dials capacity) reply l =
    record {
      standing = l.standing;
      advances = l.advances;
      flags = l.flags;
      dials = dials;
      withdrawn = l.withdrawn;
      folded = l.folded;
    }
entered (Submit place s) (Answered a) l =
    record {
      standing = named s.day s.value ∷ l.standing;
      advances = l.advances +ℤ a.advance;
      flags = l.flags +ℤ flag_of a;
      dials = l.dials;
      withdrawn = l.withdrawn;
      folded = l.folded;
    }
entered (Submit place s) (Reported r) l = l
entered (Withdraw place day value) (Answered a) l =
    record {
      standing = take_out (named day value) l.standing;
      advances = l.advances +ℤ a.advance;
      flags = l.flags -ℤ flag_of a;
      dials = l.dials;
      withdrawn = named day value ∷ l.withdrawn;
      folded = l.folded;
    }
entered (Withdraw place day value) (Reported r) l = l
entered (ReportCall place) reply l = l
-- 02, 2: an accepted fold "leaves the meter's list of standing reads as it is", and all but the last three are folded then
entered (Fold place) reply l =
    record {
      standing = l.standing;
      advances = l.advances;
      flags = l.flags;
      dials = l.dials;
      withdrawn = l.withdrawn;
      folded = length l.standing - reads_kept;
    }
entered (Trial place s) reply l = l

-- "Accepted means answered 0", here at this meter
unfoldable pub is_accepted : ℕ → Exchange → Bool
is_accepted meter x = names meter x.call && eqb (number_of x.reply) accepted

-- "Any other call, and any answer but 0 (19 and 20 too), changes nothing."
unfoldable pub ledger_after : ℕ → List Exchange → Ledger → Ledger
ledger_after meter [] l = l
ledger_after meter (x ∷ xs) l = ledger_after meter xs (cond (is_accepted meter x) (entered x.call x.reply l) l)

unfoldable pub ledger_of : ℕ → List Exchange → Ledger
ledger_of meter xs = ledger_after meter xs empty_ledger

-- a call that was accepted at this meter is among the exchanges
unfoldable pub has_accepted : ℕ → List Exchange → Bool
has_accepted meter [] = false
has_accepted meter (x ∷ xs) = is_accepted meter x || has_accepted meter xs

-- "the meter's accepted enrolment" is among them
unfoldable pub is_enrolment : Call → Bool
is_enrolment (Enrol place profile dials capacity) = true
is_enrolment (Submit place read) = false
is_enrolment (Withdraw place day value) = false
is_enrolment (ReportCall place) = false
is_enrolment (Fold place) = false
is_enrolment (Trial place read) = false

unfoldable pub has_enrolment : ℕ → List Exchange → Bool
has_enrolment meter [] = false
has_enrolment meter (x ∷ xs) = is_accepted meter x && is_enrolment x.call || has_enrolment meter xs

-- "First and last are the two ends; of one read they are the same."
unfoldable pub first_value_of : Named → List Named → ℕ
first_value_of s [] = s.value
first_value_of s (t ∷ ss) = first_value_of t ss

-- "its last standing value minus its first (0 if none stands)"
unfoldable pub last_less_first : List Named → ℤ
last_less_first [] = pos 0
last_less_first (s ∷ ss) = pos s.value -ℤ pos (first_value_of s ss)

-- a list "less its first reads, as many as were folded": the first are at its end here
unfoldable pub less_first : ℕ → List Named → List Named
less_first folded rs = take (length rs - folded) rs

unfoldable pub is_among : Named → List Named → Bool
is_among r [] = false
is_among r (s ∷ ss) = is_same_read r s || is_among r ss

-- no read of the first list is in the second
unfoldable pub are_none_of : List Named → List Named → Bool
are_none_of [] others = true
are_none_of (r ∷ rs) others = not (is_among r others) && are_none_of rs others
