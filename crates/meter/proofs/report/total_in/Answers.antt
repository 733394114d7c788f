-- The summary's fields are the journal's, and its last value is that of the first of the standing reads, the newest.
use mathlib.Core.Path.{◌≡◌, refl, ap, sym, ◌∙◌}
use mathlib.Core.List.{List, [], ◌∷◌}
use Prim.Native.Nat.{ℕ}
use native.Mathlib.Omega.{arith}
use borrow.Author.Rules.{sfits_of}
use lib.IntN.{pos}
use lib.ListN.{length}
use mir.Syntax.{w64}
use mir.ValLaws.{to_z-of_z}
use Rattle.arithmetic.specs.Powers.{ten_to}
use Rattle.arithmetic.specs.Advance.{advance_of}
use Rattle.terms.specs.declared.entry.Entry.{Entry}
use Rattle.terms.specs.Entry.{slot_at}
use Rattle.register.specs.declared.head.Head.{Head}
use Rattle.judge.specs.declared.area.Summary.{Summary}
use Rattle.journal.specs.Journal.{Journal, standing}
use Rattle.journal.specs.Total.{flagged_in, first_in, total_of}
use Rattle.judge.specs.Inner.Judged.{counts_of, value_of, summary_of}
use Rattle.meter.proofs.report.total_in.Goals as goal

total_last : (head : Head) (ss : List Entry) → (length ss ≡ 0 → ⊥) → total_of head ss ≡ advance_of head.dials (value_of (slot_at ss 0)) (flagged_in head ss) (first_in head ss)
unfolding slot_at total_of value_of
total_last head [] some = absurd (some refl)
total_last head (s ∷ ss) some = refl

total_none : (head : Head) (ss : List Entry) → length ss ≡ 0 → total_of head ss ≡ pos 0
unfolding total_of
total_none head [] none = refl
total_none head (s ∷ ss) none = absurd (omega arith)

module _ (j : Journal) {t : Summary} (e : t ≡ summary_of j) where
  counted : t.counts.standing ≡ length (standing j.entries)
  unfolding summary_of counts_of
  counted = ap (λ (u : Summary). u.counts.standing) e

  from_last : (flags first : ℕ) → flags ≡ flagged_in j.head (standing j.entries) → first ≡ first_in j.head (standing j.entries) → (t.counts.standing ≡ 0 → ⊥) → total_of j.head (standing j.entries) ≡ advance_of j.head.dials t.last flags first
  unfolding summary_of
  from_last flags first f v some = rw (e, f, v) (total_last j.head (standing j.entries) (λ z. some (counted ∙ z)))

  limit_is : t.limit ≡ ten_to j.head.dials
  unfolding summary_of
  limit_is = ap (λ (u : Summary). u.limit) e

  from_none : t.counts.standing ≡ 0 → total_of j.head (standing j.entries) ≡ pos 0
  from_none none = total_none j.head (standing j.entries) (sym counted ∙ none)

pub returns-then-t-eq0 : goal.returns-then-t-eq0
returns-then-t-eq0 c = sym (from_none _ c.args.journal.now.counted.summary c.if-t-eq0.true)

pub returns : goal.returns
returns c =
    let e = c.args.journal.now.counted.summary in
    to_z-of_z w64 _ (sfits_of c.total.type_inv) ∙ c.total.ensures _ (limit_is _ e) ∙ sym (from_last _ e _ _ c.requires c.first.ensures c.if-t-eq0.false)
