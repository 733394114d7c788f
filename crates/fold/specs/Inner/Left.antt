-- The area that a fold leaves, while it is written: it holds a head and the entries so far.
use Rattle.std.specs.Prelude.{◌≡◌, List, length}
use Rattle.terms.specs.declared.entry.Entry.{Entry}
use Rattle.register.specs.declared.head.Head.{Head}
use Rattle.journal.specs.Journal.{area_for}
use Rattle.fold.specs.declared.left.Left.{Left}

pub record Holds (head : Head) (es : List Entry) (left : Left) : Type 0 where
  pub head_is : left.head ≡ head
  pub count_is : left.count ≡ length es
  pub area_is : left.area ≡ area_for (record { head = head; entries = es })
