-- 01, Detection, "Indicator (001)": what the submitted indicator makes of the detection.
use Rattle.std.specs.Prelude.{cond, ℕ, eqb, Result, Ok, Err}
use Rattle.terms.specs.Entry.{indicator_not_set, indicator_false, indicator_true}
use Rattle.terms.specs.declared.refusal.Refusal.{Refusal}
use Rattle.terms.specs.declared.refusal.Refusal.TheVariants.{Ee, Ef}
use Rattle.terms.specs.Refusal.{number_in}
use Rattle.rules.specs.declared.detection.Detected.{Detected}
use Rattle.rules.specs.declared.detection.Detected.TheVariants.{NotRollover, Rollover, Indeterminate}

-- "the indicator's word for Indeterminate": true is 1, false is 0
abbrev pub word_of : ℕ → ℕ
word_of indicator = cond (eqb indicator indicator_true) 1 0

-- "Rollover with false, or Not a Rollover with true, is 17. Indeterminate with not set is 18. Otherwise the flag is 1 for Rollover, 0 for
-- Not a Rollover, and the indicator's word for Indeterminate."
unfoldable pub indicated : Detected → ℕ → Result ℕ Refusal
indicated Rollover indicator = cond (eqb indicator indicator_false) (Err Ee) (Ok 1)
indicated NotRollover indicator = cond (eqb indicator indicator_true) (Err Ee) (Ok 0)
indicated Indeterminate indicator = cond (eqb indicator indicator_not_set) (Err Ef) (Ok (word_of indicator))

-- the paper's number for each case
abbrev pub indicated_number : Result ℕ Refusal → ℕ
indicated_number = number_in

-- and its flag
unfoldable pub indicated_flag : Result ℕ Refusal → ℕ
indicated_flag (Ok f) = f
indicated_flag (Err r) = 0
