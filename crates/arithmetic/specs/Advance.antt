-- 01, Volume: "The advance a is a signed whole number, R1 − R0 + flag × 10^n".
use Rattle.std.specs.Prelude.{ℕ, ◌*◌, ℤ, pos, ◌+ℤ◌, ◌-ℤ◌}
use Rattle.arithmetic.specs.Powers.{ten_to}

-- The advance: newer − older + flags × 10^n. For one read over the one before it flags is its flag, for a report the
-- number of flagged reads.
unfoldable pub advance_of : ℕ → ℕ → ℕ → ℕ → ℤ
advance_of n newer flags older = pos newer -ℤ pos older +ℤ pos (flags * ten_to n)
