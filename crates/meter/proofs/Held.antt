-- A read is held where not all entries are kept.
use mathlib.Core.Path.{◌≡◌, refl, ap, ◌∙◌}
use mathlib.Core.Bool.{Bool, true, false, not}
use mathlib.Core.List.{List, [], ◌∷◌}
use Prim.Native.Nat.{ℕ, suc, ◌-◌}
use native.Mathlib.Omega.{arith}
use borrow.Author.Tests.{eq-eqb, ne_eqb}
use lib.Dec.{eqb}
use lib.ListN.{length, drop}
use Rattle.terms.specs.declared.entry.Entry.{Entry}
use Rattle.terms.specs.Entry.{those}
use Rattle.register.specs.Area.{all_zero}
use Rattle.register.specs.declared.head.Head.{Head}
use Rattle.register.specs.Entries.{entry_start}
use Rattle.register.specs.Head.{head_of, body_of}
use Rattle.judge.specs.declared.area.Summary.{Summary}
use Rattle.journal.specs.Journal.{journal_of, entry_count, kept, held_of, is_there}
use Rattle.journal.specs.Sound.{is_head, are_in_order, are_sound, is_sound}
use Rattle.judge.specs.Inner.Judged.{counts_of, summary_of, Counted}
use Rattle.journal.proofs.Bools.{both}
use Rattle.judge.proofs.Newest.{kept_all}

by_kept : (head : Head) (es : List Entry) → are_in_order head es ≡ true → not (eqb (kept es) (length es)) ≡ is_there (held_of es)
unfolding held_of is_there those
by_kept head [] order = refl
by_kept head (e ∷ es) order = cases (is_there (held_of (e ∷ es))) refl where
  cases : (b : Bool) → is_there (held_of (e ∷ es)) ≡ b → not (eqb (kept (e ∷ es)) (length (e ∷ es))) ≡ is_there (held_of (e ∷ es))
  cases true h =
      let less : kept (e ∷ es) ≡ suc (length es) - 1 = rw h at (kept_all head (e ∷ es) order) in
      let other : kept (e ∷ es) ≡ length (e ∷ es) → ⊥ = λ z. omega arith in
      rw (ne_eqb _ _ other, h)
  cases false h =
      let all : kept (e ∷ es) ≡ length (e ∷ es) = rw h at (kept_all head (e ∷ es) order) in
      rw (eq-eqb _ _ all, h)

module _ (area : List ℕ) {t : Summary} (is : Counted area t) where
  in_order : are_in_order (head_of area) (journal_of area).entries ≡ true
  unfolding is_sound are_sound
  in_order =
      let parts = both (is_head area) _ is.sound in
      let whole = (both (all_zero (drop (entry_start (entry_count area)) (body_of area))) _ parts.1).1 in
      (both (are_in_order (head_of area) (journal_of area).entries) _ whole).0

  pub held_counted : not (eqb t.counts.kept t.entries) ≡ is_there (held_of (journal_of area).entries)
  unfolding summary_of counts_of
  held_counted =
      ap (λ (u : Summary). not (eqb u.counts.kept u.entries)) is.summary
      ∙ by_kept (head_of area) (journal_of area).entries in_order
