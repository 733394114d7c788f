-- Whether an entry may follow those before it: the last standing read, the held one, and whether an F stands.
use Rattle.std.specs.Prelude.{Bool, false, not, ◌&&◌, ◌||◌, Option, Some, None}
use Rattle.terms.specs.declared.entry.Entry.{Entry}
use Rattle.terms.specs.Letter.{is_opening, is_holdable}
use Rattle.terms.specs.Entry.{is_standing, is_held}
use Rattle.register.specs.declared.head.Head.{Head}
use Rattle.journal.specs.Journal.{is_there}
use Rattle.journal.specs.Sound.{is_final_read, is_read, is_later, opens}

unfoldable pub is_after : Entry → Option Entry → Bool
is_after e (Some last) = is_later e last
is_after e None = false

unfoldable pub may_stand : Head → Entry → Option Entry → Bool
may_stand head e (Some last) = is_later e last && not (is_opening e.letter)
may_stand head e None = opens head e

unfoldable pub may_follow : Head → Entry → Option Entry → Option Entry → Bool → Bool
may_follow head e last held ended =
    is_read head e
    && (not (is_there held)
    && ((not (is_standing e) || (may_stand head e last && not (is_final_read e && ended)))
    && (not (is_held e) || (is_holdable e.letter && (is_after e last && not (is_final_read e && ended))))))
