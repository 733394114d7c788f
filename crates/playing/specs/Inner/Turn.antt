-- One turn of the loop over a sheet, for the contract of the function that takes it: what is played from there on makes the whole.
use Rattle.std.specs.Prelude.{◌≡◌, List, ◌++◌, ℕ, suc, ◌*◌, ◌≤◌, ◌<◌, length}
use Rattle.calls.specs.Play.{register_after}
use Rattle.playing.specs.declared.turn.Play.{Play}
use Rattle.playing.specs.declared.turn.Progress.{Progress}
use Rattle.sheet.specs.Sheet.{Split, sheet_most, split_from}
use Rattle.lines.specs.Line.{line_most}
use Rattle.playing.specs.Whole.{text_from, printed_most}
use Rattle.lines.specs.Put.{Put}

-- `whole` played from `from` ends as `rest` played from `to` does
pub record Leads (whole : Split) (from : Play) (rest : Split) (to : Play) : Type 0 where
  pub register_is : register_after rest.calls to.register.now ≡ register_after whole.calls from.register.now
  pub text_is : (after : List ℕ) (end : ℕ) → Put to.out.now to.so_far.end (text_from rest to.register.now) after end → Put from.out.now from.so_far.end (text_from whole from.register.now) after end

-- before a turn: an entry starts at `at`, and the text so far has the length that it may have
pub record Due (sheet : List ℕ) (p : Progress) : Type 0 where
  pub short : length sheet ≤ sheet_most
  pub more : p.at < length sheet
  pub few : p.end ≤ printed_most * p.at

-- the same bytes are lent after a turn
pub record Kept (before after : Play) : Type 0 where
  pub register : after.register.ghost_name ≡ before.register.ghost_name
  pub out : after.out.ghost_name ≡ before.out.ghost_name

-- after a turn: the position has moved on, a line was put, and the text is this line and then that of the rest from there, whatever is left of it
pub record Turned (sheet : List ℕ) (before after : Play) : Type 0 where
  pub on : before.so_far.at < after.so_far.at
  pub within : after.so_far.at ≤ length sheet
  pub few : after.so_far.end ≤ printed_most * after.so_far.at
  pub line : List ℕ
  pub short : length line ≤ line_most
  pub put : Put before.out.now before.so_far.end line after.out.now after.so_far.end
  pub text_is : (left : ℕ) → text_from (split_from (suc left) sheet before.so_far.at) before.register.now ≡ line ++ text_from (split_from left sheet after.so_far.at) after.register.now
  pub register_is : (left : ℕ) → register_after (split_from left sheet after.so_far.at).calls after.register.now ≡ register_after (split_from (suc left) sheet before.so_far.at).calls before.register.now
