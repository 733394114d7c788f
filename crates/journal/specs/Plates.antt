-- 02, 5, Three-dial meters: examples that fix which plates a meter may have.
use Rattle.std.specs.Prelude.{◌≡◌, true, false, List, [], ◌∷◌, ℕ}
use Rattle.register.specs.Head.{head_of}
use Rattle.journal.specs.Sound.{is_plate, is_head, holds}

-- the bytes of a meter's entry, with a capacity that one byte holds
abbrev pub entry_of : ℕ → ℕ → ℕ → List ℕ
entry_of kind dials capacity = kind ∷ dials ∷ capacity ∷ 0 ∷ 0 ∷ 0 ∷ []

-- THE CLAIM: one row for each example
pub record PlatesHold : Type 0 where
  -- "Enrolment takes 3 to 9 dials", of either profile, and a capacity of "at least 1"
  pub two_dials : is_plate (head_of (entry_of 1 2 1)) ≡ false
  pub three_dials : is_plate (head_of (entry_of 1 3 1)) ≡ true
  pub pseudo_of_two : is_plate (head_of (entry_of 7 2 1)) ≡ false
  pub pseudo_of_three : is_plate (head_of (entry_of 7 3 1)) ≡ true
  pub nine_dials : is_plate (head_of (entry_of 1 9 1)) ≡ true
  pub ten_dials : is_plate (head_of (entry_of 1 10 1)) ≡ false
  pub no_capacity : is_plate (head_of (entry_of 1 3 0)) ≡ false
  -- "and a sound journal follows"
  pub head_of_two : is_head (entry_of 1 2 1) ≡ false
  pub head_of_three : is_head (entry_of 1 3 1) ≡ true
  pub pseudo_head_of_three : is_head (entry_of 7 3 1) ≡ true
  -- "value (4 bytes, below 10^n)"
  pub largest_value : holds (head_of (entry_of 1 3 1)) 999 ≡ true
  pub past_the_dials : holds (head_of (entry_of 1 3 1)) 1000 ≡ false
