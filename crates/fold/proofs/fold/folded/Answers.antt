-- The head and the entries that stay, as the definition puts them.
use mathlib.Core.Path.{◌≡◌, ap, ◌∙◌}
use mathlib.Core.List.{List}
use Prim.Native.Nat.{ℕ, ◌-◌}
use native.Mathlib.Omega.{arith}
use borrow.Author.Rules.{rules}
use lib.ListN.{length, take, drop}
use Rattle.terms.specs.declared.entry.Entry.{Entry}
use Rattle.register.specs.declared.head.Head.{Head}
use Rattle.terms.specs.declared.entry.Recent.{Recent}
use Rattle.terms.specs.Entry.{recent_of}
use Rattle.register.specs.Head.{head_bytes}
use Rattle.register.proofs.Body.{head_small, body_lent}
use Rattle.journal.specs.Journal.{journal_of, entries_to, standing, day_of}
use Rattle.judge.specs.declared.area.Summary.{Summary}
use Rattle.judge.specs.Inner.Judged.{Counted}
use Rattle.reads.proofs.Counted.{head_of_lem, in_body}
use Rattle.calls.specs.Fold.{kept_from, folded_journal}
use Rattle.fold.proofs.fold.folded.Goals as goal

-- what is lent from the head's end on has the entries
lent_entries : (area : List ℕ) (t : Summary) (is : Counted area t) {start : ℕ} → start ≡ head_bytes t.head → entries_to t.entries (take (length area - start) (drop start area)) ≡ (journal_of area).entries
lent_entries area t is {start} at = rw (body_lent area start (at ∙ ap (λ (h : Head). head_bytes h) (head_of_lem area t is)), ← in_body area t is)

pub slice_bounds-body-count : goal.slice_bounds-body-count
slice_bounds-body-count c =
    let j = c.args.foldable.now.journal in
    omega (arith, c.head_bytes-start.ensures, head_small j.summary.head, j.counted.long)

pub slice_bounds-body-start : goal.slice_bounds-body-start
slice_bounds-body-start c =
    let j = c.args.foldable.now.journal in
    omega (arith, c.head_bytes-start.ensures, head_small j.summary.head, j.counted.long)

-- what is kept is the journal's
kept_is : (area : List ℕ) (t : Summary) (is : Counted area t) {start : ℕ} → start ≡ head_bytes t.head → {kept : Recent} → kept ≡ recent_of (standing (entries_to t.entries (take (length area - start) (drop start area)))) → kept ≡ recent_of (standing (journal_of area).entries)
kept_is area t is at k = k ∙ ap (λ (es : List Entry). recent_of (standing es)) (lent_entries area t is at)

pub head_after-head-requires : goal.head_after-head-requires
head_after-head-requires c = kept_is _ _ c.args.foldable.now.journal.counted c.head_bytes-start.ensures c.kept_of-kept.ensures

pub returns : goal.returns
unfolding folded_journal kept_from recent_of day_of
returns c =
    let is = c.args.foldable.now.journal.counted in
    let kept = kept_is _ _ is c.head_bytes-start.ensures c.kept_of-kept.ensures in
    let oldest : c.map_or-oldest.result ≡ day_of c.kept_of-kept.result.third = search rules in
    rw (c.left_of.ensures.area_is, lent_entries _ _ is c.head_bytes-start.ensures, c.head_after-head.ensures, oldest, kept)
