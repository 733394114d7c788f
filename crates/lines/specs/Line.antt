-- 01, Day sheet and its program: "one line a call: number, flag, advance; for a report number, standing, flagged, total.
-- Fields are decimal, one space apart, with a line feed after the last."
use Rattle.std.specs.Prelude.{List, [], ◌∷◌, ◌++◌, ℕ, ℤ}
use Rattle.calls.specs.declared.call.Reply.{Reply}
use Rattle.calls.specs.declared.call.Reply.TheVariants.{Answered, Reported}
use Rattle.lines.specs.Decimal.{decimal, signed}

-- a field and the space after it
unfoldable pub field : ℕ → List ℕ
field n = decimal n ++ (32 ∷ [])

-- the last field, which may be negative, and the line feed
unfoldable pub last_field : ℤ → List ℕ
last_field z = signed z ++ (10 ∷ [])

unfoldable pub line_of : Reply → List ℕ
line_of (Answered a) = field a.number ++ (field a.flag ++ last_field a.advance)
line_of (Reported r) = field r.number ++ (field r.standing ++ (field r.flagged ++ last_field r.total))

-- a line is at most this long
abbrev pub line_most : ℕ
line_most = 85
