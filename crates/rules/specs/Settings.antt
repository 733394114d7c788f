-- 01, Detection: "The detection settings (1000, 90, 10, 20, 200, 10) are constants that belong to one named set." The first is a function of the
-- dials (02, 5).
use Rattle.std.specs.Prelude.{cond, ℕ, eqb}

-- a step back by less than this is small. 02, 5: "The limit is −100 for three dials and −1000 otherwise."
unfoldable pub step_back : ℕ → ℕ
step_back n = cond (eqb n 3) 100 1000

-- the marks near a turn of the dials, in hundredths of the dials' range
abbrev pub high_mark : ℕ
high_mark = 90

abbrev pub low_mark : ℕ
low_mark = 10

-- the percentages between which a rate is like the one before
abbrev pub least_percent : ℕ
least_percent = 20

abbrev pub most_percent : ℕ
most_percent = 200

-- an advance is small below one part in this many of the dials' range
abbrev pub fraction : ℕ
fraction = 10

-- what percentages are parts of
abbrev pub whole_percent : ℕ
whole_percent = 100

-- 01, Volume: 003's limits, in percent of the advance before
abbrev pub low_percent : ℕ
low_percent = 20

abbrev pub high_percent : ℕ
high_percent = 200
