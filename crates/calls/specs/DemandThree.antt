-- 00, demand 3, as 01, The two runs of demand 3, words it: ONE CLAIM about a whole list.
use Rattle.std.specs.Prelude.{◌≡◌, true, false, List, [], ◌∷◌, ℕ, ◌<◌, ◌^◌, pos, ◌+ℤ◌, ◌*ℤ◌}
use Rattle.terms.specs.declared.entry.Entry.{Entry}
use Rattle.register.specs.Area.{areas_in, area_of}
use Rattle.journal.specs.Journal.{journal_of, standing}
use Rattle.calls.specs.declared.call.Call.{Call}
use Rattle.calls.specs.Kept.{is_good}
use Rattle.calls.specs.Play.{Exchange, exchanges, register_after, zero_register, picked, calls_of}
use Rattle.calls.specs.Ledger.{Named, named, ledger_of, has_accepted, has_enrolment, last_less_first, less_first, are_none_of}

-- the days and values of a journal's kind 2 entries
unfoldable pub names_of : List Entry → List Named
names_of [] = []
names_of (e ∷ es) = named e.day e.value ∷ names_of es

-- what holds of one run at a meter: its exchanges and the register that it ends with
pub record RunHolds (meter : ℕ) (xs : List Exchange) (register : List ℕ) : Type 0 where
  -- "the advances answered to the meter's accepted submissions and withdrawals add up to its last standing value minus its first (0 if none
  -- stands), plus 10^n (n the dials enrolled) times one count: accepted submissions flagged rollover less accepted withdrawals so flagged"
  pub sum : (ledger_of meter xs).advances ≡ last_less_first (ledger_of meter xs).standing +ℤ pos (10 ^ (ledger_of meter xs).dials) *ℤ (ledger_of meter xs).flags
  -- "After neither run does a read stand at the meter whose day and value an accepted withdrawal there named earlier."
  pub apart : are_none_of (ledger_of meter xs).standing (ledger_of meter xs).withdrawn ≡ true
  -- "after each run the meter's kind 2 entries hold just these days and values, in this order"; 02, 2: "the kind 2 entries then hold that list
  -- less its first reads, as many as were folded"
  pub stand : names_of (standing (journal_of (area_of meter register)).entries) ≡ less_first (ledger_of meter xs).folded (ledger_of meter xs).standing
  -- as many as the carry counts
  pub folded : (journal_of (area_of meter register)).head.carry.folded ≡ (ledger_of meter xs).folded
  -- "n is from the meter's accepted enrolment; without one nothing is accepted there and both sides of the sum are 0."
  pub unenrolled : has_enrolment meter xs ≡ false → (has_accepted meter xs ≡ false) × ((ledger_of meter xs).standing ≡ []) × ((ledger_of meter xs).advances ≡ pos 0) × ((ledger_of meter xs).flags ≡ pos 0)
  -- the area that holds them is all zero or sound
  pub good : is_good (area_of meter register) ≡ true

-- "Run A plays the list on an all-zero register"
abbrev pub run_a : List Call → List Exchange
run_a calls = exchanges calls zero_register

-- "Run B plays on another all-zero register, in order, only the calls that name this meter and that A answered 0, 19 or 20."
abbrev pub calls_b : ℕ → List Call → List Call
calls_b meter calls = calls_of (picked meter (run_a calls))

abbrev pub run_b : ℕ → List Call → List Exchange
run_b meter calls = exchanges (calls_b meter calls) zero_register

pub record RunsHold (meter : ℕ) (calls : List Call) : Type 0 where
  -- "After both, the meter's stored bytes are the same."
  pub bytes : area_of meter (register_after calls zero_register) ≡ area_of meter (register_after (calls_b meter calls) zero_register)
  -- "Every call that B plays gets the same answer as in A."
  pub answers : run_b meter calls ≡ picked meter (run_a calls)
  -- "In each run"
  pub in_a : RunHolds meter (run_a calls) (register_after calls zero_register)
  pub in_b : RunHolds meter (run_b meter calls) (register_after (calls_b meter calls) zero_register)

-- DEMAND 3: "This holds for every list of enrolments, submissions, withdrawals and reports, refused ones included, and for every meter."; 02, 2:
-- folds are in the list too; 02, 7: and trials, anywhere
unfoldable pub DemandThree : Type 0
DemandThree = (meter : ℕ) → meter < areas_in zero_register → (calls : List Call) → RunsHold meter calls
