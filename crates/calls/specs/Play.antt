-- 00, demand 3, and 01, The two runs of demand 3: a list of calls played on a register, "each call on what the last one left".
use Rattle.std.specs.Prelude.{Bool, true, false, not, ◌&&◌, ◌||◌, List, [], ◌∷◌, ℕ, eqb, replicate}
use Rattle.terms.specs.Number.{accepted, low, high}
use Rattle.register.specs.Area.{register_bytes}
use Rattle.calls.specs.declared.call.Call.{Call}
use Rattle.calls.specs.declared.call.Call.TheVariants.{Enrol, Submit, Withdraw, Report as ReportCall, Fold, Trial}
use Rattle.calls.specs.declared.call.Reply.{Reply}
use Rattle.calls.specs.declared.call.Reply.TheVariants.{Answered, Reported}
use Rattle.calls.specs.Calls.{place_of, step}

-- a call and the reply to it
pub record Exchange : Type 0 where
  pub call : Call
  pub reply : Reply

abbrev pub exchange : Call → Reply → Exchange
exchange call reply = record { call = call; reply = reply }

-- "Each call gets the register as the call before it left it, and nothing else writes it meanwhile."
unfoldable pub exchanges : List Call → List ℕ → List Exchange
exchanges [] register = []
exchanges (call ∷ calls) register =
    exchange call (step call register).reply ∷ exchanges calls (step call register).register

unfoldable pub register_after : List Call → List ℕ → List ℕ
register_after [] register = register
register_after (call ∷ calls) register = register_after calls (step call register).register

-- "32,768 zero bytes"
unfoldable pub zero_register : List ℕ
zero_register = replicate register_bytes 0

unfoldable pub number_of : Reply → ℕ
number_of (Answered a) = a.number
number_of (Reported r) = r.number

-- 02, 7: a trial stands "between two calls", and is none on the meter at its place
unfoldable pub is_trial : Call → Bool
is_trial (Enrol place profile dials capacity) = false
is_trial (Submit place read) = false
is_trial (Withdraw place day value) = false
is_trial (ReportCall place) = false
is_trial (Fold place) = false
is_trial (Trial place read) = true

-- "a call names it by its place", but for a trial
unfoldable pub names : ℕ → Call → Bool
names meter call = not (is_trial call) && eqb (place_of call) meter

-- 0, 19 and 20: the numbers that may come with a change
unfoldable pub may_change : ℕ → Bool
may_change number = eqb number accepted || (eqb number low || eqb number high)

-- "only the calls that name this meter and that A answered 0, 19 or 20"
unfoldable pub is_picked : ℕ → Exchange → Bool
is_picked meter x = names meter x.call && may_change (number_of x.reply)

abbrev pub exchange_if : Bool → Exchange → List Exchange → List Exchange
exchange_if true x xs = x ∷ xs
exchange_if false x xs = xs

unfoldable pub picked : ℕ → List Exchange → List Exchange
picked meter [] = []
picked meter (x ∷ xs) = exchange_if (is_picked meter x) x (picked meter xs)

unfoldable pub calls_of : List Exchange → List Call
calls_of [] = []
calls_of (x ∷ xs) = x.call ∷ calls_of xs
