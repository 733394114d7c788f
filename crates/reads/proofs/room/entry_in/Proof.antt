-- Where there is room, the entry is read in the body.
use mathlib.Core.Path.{◌≡◌, sym, ◌∙◌}
use mathlib.Core.Bool.{true}
use Prim.Native.Nat.{suc}
use native.Mathlib.Omega.{arith}
use Rattle.reads.specs.Inner.Room.{has_room, slot_in}
use Rattle.reads.proofs.Lent.{lent_is, lent_room, start_room}
use borrow.Author.Rules.{rules}
use Rattle.reads.proofs.room.entry_in.Statement.{statement}
use Rattle.reads.proofs.room.entry_in.Tie as tie

has_entry_requires : tie.Need-has_entry-requires
has_entry_requires c κs = search rules

returns : tie.Need-returns-then-not-has_entry
unfolding slot_in
returns c = rw (sym c.before.has_entry.ensures ∙ c.if-not-has_entry.true)

head_bytes_requires : tie.Need-head_bytes-start-requires
head_bytes_requires c κs = search rules

module _ (c : tie.After-head_bytes-start) where
  abbrev start : tie.Start
  start = c.before.before.before.before

  room : has_room start.args.area.now start.args.head (suc start.args.k) ≡ true
  room = sym c.before.before.has_entry.ensures ∙ c.before.if-not-has_entry.false

sub_entry_at : tie.Need-slice_bounds-entry_at-count
sub_entry_at c = start_room _ (start c).args.head _ (room c) c.head_bytes-start.ensures

part_entry_at_start : tie.Need-slice_bounds-entry_at-start
part_entry_at_start c = start_room _ (start c).args.head _ (room c) c.head_bytes-start.ensures

part_entry_at_end : tie.Need-slice_bounds-entry_at-end
part_entry_at_end c = search rules

entry_at_requires : tie.Need-entry_at-requires
entry_at_requires c κs = let h = c.before in omega (arith, lent_room _ (start h).args.head _ (room h) h.head_bytes-start.ensures)

returns_2 : tie.Need-returns
unfolding slot_in
returns_2 c = let h = c.before.before in rw (c.entry_at.ensures, lent_is _ (start h).args.head h.head_bytes-start.ensures, room h)

pub entry_in_spec : {M : Type 1} → statement M
entry_in_spec =
    tie.close
    (tie.spec
    has_entry_requires
    returns
    head_bytes_requires
    sub_entry_at
    part_entry_at_start
    part_entry_at_end
    entry_at_requires
    returns_2)
