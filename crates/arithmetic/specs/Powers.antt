-- 01, Detection: "The powers 10^0 to 10^9 come from a fixed table."
use Rattle.std.specs.Prelude.{cond, ℕ, ◌^◌, ltb}

-- the number of powers in the table, 10^0 to 10^9
abbrev pub powers_held : ℕ
powers_held = 10

-- 10^n; past the table's end, where no dial count lies, 0
unfoldable pub ten_to : ℕ → ℕ
ten_to n = cond (ltb n powers_held) (10 ^ n) 0
