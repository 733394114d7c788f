-- What a method of `Text` leaves.
use Rattle.std.specs.Prelude.{◌≡◌, List, ℕ}
use Rattle.lines.specs.declared.text.Text.{Text}
use Rattle.lines.specs.Put.{Put}

-- the same bytes are lent, with this text put where the one before ends
pub record Adds (before : Text) (text : List ℕ) (after : Text) : Type 0 where
  pub same_reference : after.out.ghost_name ≡ before.out.ghost_name
  pub put : Put before.out.now before.end text after.out.now after.end
