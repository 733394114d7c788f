-- Whether an entry may follow those before it, by numbers: whether a read stands and the day of the last one, whether the newest entry is
-- held, and whether an F stands.
use Rattle.std.specs.Prelude.{Bool, not, ◌&&◌, ◌||◌, cond, ℕ, ltb}
use Rattle.terms.specs.declared.entry.Entry.{Entry}
use Rattle.terms.specs.Letter.{is_opening, is_holdable}
use Rattle.terms.specs.Entry.{is_standing, is_held}
use Rattle.register.specs.declared.head.Head.{Head}
use Rattle.journal.specs.Sound.{is_final_read, is_read, opens}

unfoldable pub stands_by : Head → Entry → Bool → ℕ → Bool
stands_by head e stands last = cond stands (ltb last e.day && not (is_opening e.letter)) (opens head e)

unfoldable pub follows_by : Head → Entry → Bool → ℕ → Bool → Bool → Bool
follows_by head e stands last held ended =
    (is_read head e && not held)
    && cond (is_standing e)
    (stands_by head e stands last && not (is_final_read e && ended))
    (not (is_held e) || (is_holdable e.letter && ((stands && ltb last e.day) && not (is_final_read e && ended))))
