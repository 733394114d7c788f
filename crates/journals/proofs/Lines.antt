-- Lines, written one part after another.
use Rattle.std.proofs.Common.{◌≡◌, ℕ, ◌+◌, List, [], ◌∷◌, ◌++◌, length, arith, refl, subst, add-one}
use Rattle.std.specs.Prelude.{Option, Result, Ok, Err, OnOk}
use Rattle.std.specs.Fmt.{decimal}
use Rattle.std.specs.Io.KnownBytes.{Appends}
use Rattle.std.proofs.KnownBytes.{Appends-nil, Appends-trans}
use Rattle.register.specs.Area.{areas_in}
use Rattle.calls.specs.Calls.{journal_part}
use Rattle.journals.specs.Text.{bytes_text, line_of, lines_below, journals_text}

-- a journal has a line of its bytes
pub line_written : {E : Type 0} (r : Result (Unit {0}) E) (a b c d : Option (List ℕ)) (place : ℕ) (part : List ℕ) → (length part ≡ 0 → ⊥) → Appends a b (decimal place ++ (32 ∷ [])) → Appends b c (bytes_text part) → OnOk r (Appends c d (10 ∷ [])) → OnOk r (Appends a d (line_of place part))
unfolding line_of
line_written (Err e) a b c d place part some number bytes feed = tt
line_written (Ok u) a b c d place [] some number bytes feed = absurd (some refl)
line_written (Ok u) a b c d place (x ∷ part) some number bytes feed =
    Appends-trans a c d _ (10 ∷ []) (Appends-trans a b c _ (bytes_text (x ∷ part)) number bytes) feed

-- and where there is none nothing is written
pub no_line : (a : Option (List ℕ)) (place : ℕ) (part : List ℕ) → length part ≡ 0 → Appends a a (line_of place part)
unfolding line_of
no_line a place [] none = Appends-nil a
no_line a place (x ∷ part) none = absurd (omega arith)

pub lines_begun : (a : Option (List ℕ)) (register : List ℕ) → Appends a a (lines_below 0 register)
unfolding lines_below
lines_begun a register = Appends-nil a

pub line_more : (a b c : Option (List ℕ)) (n : ℕ) (part register : List ℕ) → part ≡ journal_part n register → Appends a b (lines_below n register) → Appends b c (line_of n part) → Appends a c (lines_below (n + 1) register)
unfolding lines_below
line_more a b c n part register e so_far line =
    rw (add-one, ← e) (Appends-trans a b c (lines_below n register) (line_of n part) so_far line)

pub lines_ended : (a b : Option (List ℕ)) (n : ℕ) (register : List ℕ) → n ≡ 64 → Appends a b (lines_below n register) → Appends a b (journals_text register)
unfolding journals_text areas_in
lines_ended a b n register e written = subst (λ (k : ℕ). Appends a b (lines_below k register)) e written
