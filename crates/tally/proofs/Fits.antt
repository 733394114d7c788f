-- A tally that reports 0: its dials are 3 to 9, its values are shown by them and 0 where none stands, and its counts are right.
use mathlib.Core.Path.{◌≡◌}
use Prim.Native.Nat.{◌≤◌, ◌<◌}
use Rattle.arithmetic.specs.Powers.{ten_to}
use Rattle.journal.specs.Sound.{least_dials, most_dials}
use Rattle.tally.specs.declared.tally.Tally.{Tally}
use Rattle.tally.specs.Tally.{most_standing}

pub record Fits (t : Tally) : Type 0 where
  pub least : least_dials ≤ t.dials
  pub most : t.dials ≤ most_dials
  pub first_shown : t.first < ten_to t.dials
  pub last_shown : t.last < ten_to t.dials
  pub none : t.standing ≡ 0 → (t.first ≡ 0) × (t.last ≡ 0)
  pub fewer : t.flagged ≤ t.standing
  pub few : t.standing ≤ most_standing
