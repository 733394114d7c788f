-- A sound journal has as many days as it counts reads, those that were folded too, so that their number fits two bytes.
use Rattle.std.specs.Prelude.{Option, Some, None}
use mathlib.Core.Path.{◌≡◌, refl, sym, ap, ◌∙◌}
use mathlib.Core.Bool.{Bool, true, false, ◌&&◌, and-false}
use mathlib.Core.List.{List, [], ◌∷◌}
use Prim.Native.Nat.{ℕ, ◌+◌, ◌≤◌, ◌<◌}
use native.Mathlib.Omega.{arith}
use borrow.Author.Tests.{ne_eqb, not-false}
use lib.Dec.{eqb}
use lib.ListN.{length}
use Rattle.terms.specs.declared.entry.Entry.{Entry}
use Rattle.terms.specs.Entry.{is_standing, slot_at}
use Rattle.register.specs.declared.head.Head.{Head}
use Rattle.register.specs.Head.{no_carry}
use Rattle.register.proofs.Heads.{bare_carry}
use Rattle.journal.specs.Journal.{journal_of, standing, is_flagged, day_of, oldest_of}
use Rattle.journal.specs.Total.{flagged_of, standing_in, flagged_in}
use Rattle.journal.specs.Sound.{days_rise, has_read, are_sound, is_sound}
use Rattle.journal.proofs.Entries.{those_at_most}
use Rattle.calls.specs.Checks.{is_not_last, is_oldest_kept}
use Rattle.calls.proofs.Bools.{by_test, apart as contrary}
use Rattle.calls.proofs.Names.{read_is}
use Rattle.calls.proofs.Lists.{every_those}
use Rattle.calls.proofs.Carried.{carries, none_uncarried}
use Rattle.calls.proofs.Clauses.{Clauses, clauses_of}
use Rattle.calls.proofs.Shape.{sounds}
use Rattle.calls.proofs.Folded.{oldest_dated, days_apart}

module _ (head : Head) (es : List Entry) (bare : head.carried ≡ false → head.carry ≡ no_carry) (sound : are_sound head es ≡ true) where
  clauses : Clauses head es
  clauses = clauses_of head es sound

  none_folded : head.carried ≡ false → (head.carry.folded ≡ 0) × (head.carry.flagged ≡ 0)
  unfolding no_carry
  none_folded t = rw (bare t) (refl, refl)

  as_many : (ss : List Entry) → standing es ≡ ss → head.carry.folded + length ss ≤ day_of (slot_at ss 0)
  unfolding slot_at day_of
  as_many [] none = omega (arith, (none_folded (none_uncarried head (rw none at clauses.carry))).0)
  as_many (s ∷ ss) are =
      let apart = days_apart s ss (rw are at clauses.rise) in
      by_test head.carried
      (λ t. omega (arith, apart, (carries head (s ∷ ss) (rw are at clauses.carry) t).before))
      (λ t. omega (arith, apart, (none_folded t).0, oldest_dated head s ss (rw are at (every_those _ is_standing es clauses.reads))))

  fewer_flagged : head.carry.flagged ≤ head.carry.folded
  fewer_flagged = by_test head.carried (λ t. (carries head (standing es) clauses.carry t).fewer) (λ t. omega (arith, (none_folded t).0, (none_folded t).1))

module _ (a : List ℕ) (sound : is_sound a ≡ true) where
  abbrev ss : List Entry
  ss = standing (journal_of a).entries

  bare : (journal_of a).head.carried ≡ false → (journal_of a).head.carry ≡ no_carry
  unfolding journal_of
  bare h = bare_carry a h

  journal_sound : are_sound (journal_of a).head (journal_of a).entries ≡ true
  unfolding journal_of
  journal_sound = (sounds a sound).sound

  pub few_standing : standing_in (journal_of a).head ss ≤ day_of (slot_at ss 0)
  unfolding standing_in
  few_standing = as_many (journal_of a).head (journal_of a).entries bare journal_sound ss refl

  pub few_flagged : flagged_in (journal_of a).head ss ≤ standing_in (journal_of a).head ss
  unfolding flagged_in standing_in flagged_of
  few_flagged = omega (arith, fewer_flagged (journal_of a).head (journal_of a).entries bare journal_sound, those_at_most is_flagged ss)

-- ---- the last standing read is the oldest kept where it stands alone, since an older one has an earlier day
oldest_other : (day value : ℕ) (head : Head) (oldest : Option Entry) → day_of oldest < day → is_oldest_kept day value head oldest ≡ false
unfolding is_oldest_kept day_of has_read
oldest_other day value head (Some o) l = rw (ne_eqb o.day day (omega arith)) (and-false head.carried)
oldest_other day value head None l = refl

last_oldest : (day value : ℕ) (head : Head) (ss : List Entry) → days_rise ss ≡ true → is_not_last day value (slot_at ss 0) ≡ false → is_oldest_kept day value head (oldest_of ss) ≡ head.carried && eqb (length ss) 1
unfolding is_not_last slot_at oldest_of is_oldest_kept
last_oldest day value head [] rise h = absurd (contrary refl h)
last_oldest day value head (r ∷ []) rise h = rw (not-false (has_read day value r) h)
last_oldest day value head (r ∷ s ∷ ss) rise h =
    let d = (read_is day value r (not-false (has_read day value r) h)).0 in
    oldest_other day value head (oldest_of (s ∷ ss)) (omega (arith, d, days_apart r (s ∷ ss) rise))
    ∙ sym (ap (λ (b : Bool). head.carried && b) (ne_eqb (length (r ∷ s ∷ ss)) 1 (omega arith)) ∙ and-false head.carried)

pub alone_oldest : (day value : ℕ) (a : List ℕ) → is_sound a ≡ true → is_not_last day value (slot_at (standing (journal_of a).entries) 0) ≡ false → is_oldest_kept day value (journal_of a).head (oldest_of (standing (journal_of a).entries)) ≡ (journal_of a).head.carried && eqb (length (standing (journal_of a).entries)) 1
unfolding journal_of
alone_oldest day value a sound h = last_oldest day value (journal_of a).head (standing (journal_of a).entries) (clauses_of _ _ (sounds a sound).sound).rise h
