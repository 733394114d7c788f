-- 01, The register: when a journal is sound. "Anything else non-zero is damaged."
use Rattle.std.specs.Prelude.{Bool, true, false, not, ◌&&◌, ◌||◌, List, [], ◌∷◌, ℕ, eqb, leb, ltb, drop, Option, Some, None}
use Rattle.arithmetic.specs.Powers.{ten_to}
use Rattle.terms.specs.declared.entry.Entry.{Entry}
use Rattle.terms.specs.Letter.{is_opening, is_final, is_holdable}
use Rattle.terms.specs.Entry.{indicator_not_set, indicator_true, is_standing, is_withdrawn, is_held}
use Rattle.terms.specs.Profile.{meter_kind, takes}
use Rattle.register.specs.Area.{all_zero}
use Rattle.register.specs.Bytes.{byte_at}
use Rattle.register.specs.declared.head.Head.{Head}
use Rattle.register.specs.Entries.{entry_start}
use Rattle.register.specs.Head.{head_of, body_of}
use Rattle.journal.specs.Journal.{entry_count, journal_of, standing, withdrawn, oldest_of}

-- every entry, or any entry, passes a test
unfoldable pub every : (Entry → Bool) → List Entry → Bool
every test [] = true
every test (e ∷ es) = test e && every test es

unfoldable pub any : (Entry → Bool) → List Entry → Bool
any test [] = false
any test (e ∷ es) = test e || any test es

-- "Kind 1, meter, first and only first: dials n (1 byte, ..), capacity in m³ a year (4 bytes, at least 1)." 02, 5: "Enrolment takes 3 to 9
-- dials and a sound journal follows."
abbrev pub least_dials : ℕ
least_dials = 3

abbrev pub most_dials : ℕ
most_dials = 9

unfoldable pub is_plate : Head → Bool
is_plate head = leb least_dials head.dials && (leb head.dials most_dials && not (eqb head.capacity 0))

-- 02, 4: "Kind 7 stands where kind 1 would, same body"
unfoldable pub is_head : List ℕ → Bool
is_head area = eqb (byte_at area 0) (meter_kind (head_of area).profile) && is_plate (head_of area)

-- ---- what a meter asks of its reads, with the types that its profile takes
-- what its dials hold: "value (4 bytes, below 10^n)"
unfoldable pub holds : Head → ℕ → Bool
holds head value = ltb value (ten_to head.dials)

-- how its first standing read opens: "The first standing read is type I or O with flag 0"; 02, 2: "in a carried journal the first standing
-- read may have any type and flag"
unfoldable pub opens : Head → Entry → Bool
opens head s = head.carried || is_opening s.letter && eqb s.flag 0

-- ---- one entry: each field in its range
-- "Kinds 2 standing, 3 withdrawn, 4 held, one body: day (2 bytes, 1 to 65,535; ..), value (4 bytes, below 10^n), type (ASCII letter),
-- indicator (1 byte: 0 not set, 1 false, 2 true), flag (1 byte, 1 if rollover, else 0)." "I and O have indicator 0 wherever they appear." 02, 4:
-- "a journal holding another type there is damaged".
unfoldable pub is_in_range : Head → Entry → Bool
is_in_range head e =
    not (eqb e.day 0)
    && (holds head e.value
    && (takes head.profile e.letter
    && (leb e.indicator indicator_true
    && (leb e.flag 1 && (not (is_opening e.letter) || eqb e.indicator indicator_not_set)))))

unfoldable pub is_read : Head → Entry → Bool
is_read head e = (is_standing e || (is_withdrawn e || is_held e)) && is_in_range head e

-- ---- the entries together
-- "Standing days strictly rise."
unfoldable pub days_rise : List Entry → Bool
days_rise [] = true
days_rise (s ∷ []) = true
days_rise (s ∷ t ∷ ss) = ltb t.day s.day && days_rise (t ∷ ss)

-- "The first standing read is type I or O with flag 0; no later one is I or O"
unfoldable pub opens_right : Head → List Entry → Bool
opens_right head [] = true
opens_right head (s ∷ []) = opens head s
opens_right head (s ∷ t ∷ ss) = not (is_opening s.letter) && opens_right head (t ∷ ss)

abbrev pub is_final_read : Entry → Bool
is_final_read e = is_final e.letter

-- "at most one is F"
unfoldable pub has_one_final : List Entry → Bool
has_one_final [] = true
has_one_final (s ∷ ss) = not (is_final_read s && any is_final_read ss) && has_one_final ss

-- an entry has this day and value
unfoldable pub has_read : ℕ → ℕ → Entry → Bool
has_read day value e = eqb e.day day && eqb e.value value

-- "No standing read has both the day and the value of a withdrawn one."
abbrev pub is_apart_from : List Entry → Entry → Bool
is_apart_from ss w = not (any (has_read w.day w.value) ss)

unfoldable pub are_apart : List Entry → List Entry → Bool
are_apart ss ws = every (is_apart_from ss) ws

abbrev pub is_later : Entry → Entry → Bool
is_later e s = ltb s.day e.day

unfoldable pub exists : List Entry → Bool
exists [] = false
exists (s ∷ ss) = true

-- "A held read is the last entry, of type C U R T S F X or E, later than a standing read that exists and than every one, and not F if an F
-- stands."
unfoldable pub may_be_held : Entry → List Entry → Bool
may_be_held e ss =
    is_holdable e.letter
    && (exists ss && (every (is_later e) ss && not (is_final_read e && any is_final_read ss)))

unfoldable pub is_held_right : List Entry → Bool
is_held_right [] = true
is_held_right (e ∷ es) = not (any is_held es) && (not (is_held e) || may_be_held e (standing es))

-- 02, 2: "A carry is sound if its value is below 10^n, flagged is at most folded, folded is at least 1 and below the oldest kept day, and a
-- read stands."
unfoldable pub is_before : ℕ → Option Entry → Bool
is_before folded (Some oldest) = ltb folded oldest.day
is_before folded None = false

unfoldable pub is_carry : Head → Option Entry → Bool
is_carry head oldest =
    holds head head.carry.first
    && (leb head.carry.flagged head.carry.folded
    && (leb 1 head.carry.folded && is_before head.carry.folded oldest))

unfoldable pub carries_right : Head → List Entry → Bool
carries_right head ss = not head.carried || is_carry head (oldest_of ss)

-- the entries of a sound journal, but for the clause that compares standing and withdrawn reads, and for its carry
unfoldable pub are_in_order : Head → List Entry → Bool
are_in_order head es =
    every (is_read head) es
    && (days_rise (standing es) && (opens_right head (standing es) && (has_one_final (standing es) && is_held_right es)))

unfoldable pub are_sound : Head → List Entry → Bool
are_sound head es = are_in_order head es && (are_apart (standing es) (withdrawn es) && carries_right head (standing es))

-- a sound area: a head, the entries, "then zeros to the end"
unfoldable pub is_sound : List ℕ → Bool
is_sound area =
    is_head area
    && (all_zero (drop (entry_start (entry_count area)) (body_of area)) && are_sound (head_of area) (journal_of area).entries)
