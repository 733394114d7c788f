-- 02, 6, A standing tally: how it "is changed in place after every answered call on that meter, by the call and its answer alone".
use Rattle.std.specs.Prelude.{Bool, ◌&&◌, cond, ℕ, ◌*◌, eqb, ℤ, pos, nat_abs, ◌+ℤ◌, ◌-ℤ◌}
use Rattle.std.specs.Int.Signed.{non_neg}
use Rattle.arithmetic.specs.Powers.{ten_to}
use Rattle.terms.specs.Number.{accepted}
use Rattle.calls.specs.declared.call.Call.{Call}
use Rattle.calls.specs.declared.call.Call.TheVariants.{Enrol, Submit, Withdraw, Report as ReportCall, Fold, Trial}
use Rattle.calls.specs.declared.call.Reply.{Reply}
use Rattle.calls.specs.declared.call.Reply.TheVariants.{Answered, Reported}
use Rattle.calls.specs.Play.{number_of}
use Rattle.tally.specs.declared.tally.Tally.{Tally}
use Rattle.tally.specs.Tally.{tallied, is_zero, tally_number}

-- what a call makes of a tally's numbers, before it is asked whether they may be: some may be below 0
pub record Wanted : Type 0 where
  pub dials : ℕ
  pub standing : ℤ
  pub flagged : ℤ
  pub first : ℕ
  pub last : ℤ

-- the tally of numbers that are not below 0
unfoldable pub tally_for : Wanted → Tally
tally_for w = tallied w.dials (nat_abs w.standing) (nat_abs w.flagged) w.first (nat_abs w.last)

-- "a change from or to one, or to a number below 0, is not made": a tally that reports 4 is none to change to, nor are numbers below 0
unfoldable pub may_be : Wanted → Bool
may_be w =
    non_neg w.standing
    && (non_neg w.flagged && (non_neg w.last && eqb (tally_number (tally_for w)) accepted))

unfoldable pub made_to : Wanted → Tally → Tally
made_to w t = cond (may_be w) (tally_for w) t

-- ---- "An all-zero tally .. takes only an enrolment, which no other takes." It sets the dials.
unfoldable pub enrolled : ℕ → Wanted
enrolled dials = record { dials = dials; standing = pos 0; flagged = pos 0; first = 0; last = pos 0 }

-- ---- "an accepted submission's value becomes the last", and the first where none stands; one more stands, and its flag is counted
unfoldable pub with_read : ℕ → ℕ → Tally → Wanted
with_read value flag t =
    record {
      dials = t.dials;
      standing = pos t.standing +ℤ pos 1;
      flagged = pos t.flagged +ℤ pos flag;
      first = cond (eqb t.standing 0) value t.first;
      last = pos value;
    }

-- ---- "an accepted withdrawal's answered advance and flag × 10^n are added to the last"; one less stands, and its flag is taken off. "Both
-- values are 0 where none stands", as after the only read has gone.
unfoldable pub last_without : ℕ → ℤ → Tally → ℤ
last_without flag advance t = pos t.last +ℤ advance +ℤ pos (flag * ten_to t.dials)

unfoldable pub without_read : ℕ → ℤ → Tally → Wanted
without_read flag advance t =
    record {
      dials = t.dials;
      standing = pos t.standing -ℤ pos 1;
      flagged = pos t.flagged -ℤ pos flag;
      first = cond (eqb t.standing 1) 0 t.first;
      last = cond (eqb t.standing 1) (pos 0) (last_without flag advance t);
    }

-- ---- the change. A fold and a report change nothing, and an answer that is none to the call changes nothing either. A trial is no call on the
-- meter, so that it changes nothing whatever it is answered.
unfoldable pub taken : Call → Reply → Tally → Tally
taken (Enrol place profile dials capacity) (Answered a) t = cond (is_zero t) (made_to (enrolled dials) t) t
taken (Enrol place profile dials capacity) (Reported r) t = t
taken (Submit place s) (Answered a) t =
    cond (eqb (tally_number t) accepted) (made_to (with_read s.value a.flag t) t) t
taken (Submit place s) (Reported r) t = t
taken (Withdraw place day value) (Answered a) t =
    cond (eqb (tally_number t) accepted) (made_to (without_read a.flag a.advance t) t) t
taken (Withdraw place day value) (Reported r) t = t
taken (ReportCall place) reply t = t
taken (Fold place) reply t = t
taken (Trial place s) reply t = t

-- "every refused call" changes nothing, 19 and 20 too
unfoldable pub tally_after : Call → Reply → Tally → Tally
tally_after call reply t = cond (eqb (number_of reply) accepted) (taken call reply t) t
