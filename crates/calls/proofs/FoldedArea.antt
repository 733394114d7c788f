-- The area that a fold leaves: it holds the folded journal, and is sound.
use mathlib.Core.Path.{◌≡◌, refl, sym, ap, ◌∙◌}
use mathlib.Core.Logic.{◌⊎◌, inl, inr}
use mathlib.Core.Bool.{Bool, true, false, ◌&&◌, and-false}
use mathlib.Core.List.{List, [], ◌∷◌}
use Prim.Native.Nat.{ℕ, ◌≤◌}
use native.Mathlib.Omega.{arith}
use borrow.Author.Tests.{ltb-false}
use lib.Dec.{ltb}
use lib.ListN.{length}
use Rattle.terms.specs.declared.entry.Entry.{Entry}
use Rattle.terms.specs.Entry.{keep_if, those}
use Rattle.register.specs.Area.{area_bytes}
use Rattle.register.specs.Head.{no_carry, most_entries, body_of}
use Rattle.register.proofs.Heads.{bare_carry}
use Rattle.journal.specs.Journal.{Journal, entry_count, journal_of, standing, withdrawn, area_for}
use Rattle.journal.specs.Sound.{any, has_read, is_plate, are_sound, is_sound}
use Rattle.journal.proofs.Entries.{length_entries, count_at_most}
use Rattle.calls.specs.Checks.{is_no_fold}
use Rattle.calls.specs.Fold.{kept_from, stays, head_after, folded_journal}
use Rattle.calls.proofs.Bools.{by_test, apart as contrary}
use Rattle.calls.proofs.Clauses.{clauses_of}
use Rattle.calls.proofs.Shape.{sounds, plate_of_lem}
use Rattle.calls.proofs.Laid.{laid_size, laid_sound, laid_journal}
use Rattle.calls.proofs.Names.{read_is}
use Rattle.calls.proofs.Folding.{Four, four, kept_from_lem, withdrawn_left}
use Rattle.calls.proofs.Folded.{enough, three_stand, left_room, folded_sound}

pub record Folded (a after : List ℕ) : Type 0 where
  pub size : length after ≡ area_bytes
  pub sound : is_sound after ≡ true
  pub journal : journal_of after ≡ folded_journal (journal_of a)

module _ (a : List ℕ) (sound : is_sound a ≡ true) (can : is_no_fold (standing (journal_of a).entries) ≡ false) where
  abbrev j : Journal
  j = journal_of a

  bare : j.head.carried ≡ false → j.head.carry ≡ no_carry
  unfolding journal_of
  bare h = bare_carry a h

  few : length j.entries ≤ most_entries j.head
  unfolding journal_of
  few = omega (arith, length_entries (entry_count a) (body_of a), count_at_most a)

  plate : is_plate (folded_journal j).head ≡ true
  unfolding folded_journal head_after is_plate journal_of
  plate = plate_of_lem a (sounds a sound).head

  carried_not : (folded_journal j).head.carried ≡ false → ⊥
  unfolding folded_journal head_after
  carried_not h = contrary refl h

  pub folded : Folded a (area_for (folded_journal j))
  unfolding folded_journal journal_of
  folded =
      let room = left_room j bare (sounds a sound).sound can (four (standing j.entries) (enough j bare (sounds a sound).sound can)) few in
      let after_sound = folded_sound j bare (sounds a sound).sound can in
      record {
        size = laid_size (folded_journal j) (λ h. absurd (carried_not h)) room plate after_sound;
        sound = laid_sound (folded_journal j) (λ h. absurd (carried_not h)) room plate after_sound;
        journal = laid_journal (folded_journal j) (λ h. absurd (carried_not h)) room plate after_sound;
      }

-- ---- what stands and is withdrawn then
module _ (a after : List ℕ) (sound : is_sound a ≡ true) (can : is_no_fold (standing (journal_of a).entries) ≡ false) (f : Folded a after) where
  abbrev es : List Entry
  es = (journal_of a).entries

  abbrev es' : List Entry
  es' = (journal_of after).entries

  entries : es' ≡ those (stays (kept_from es)) es
  unfolding folded_journal
  entries = ap (λ (x : Journal). x.entries) f.journal

  areas_sound : are_sound (journal_of a).head es ≡ true
  unfolding journal_of
  areas_sound = (sounds a sound).sound

  pub stood : Four (standing es)
  stood = four (standing es) (enough (journal_of a) (bare a sound can) areas_sound can)

  pub folded_standing : standing es' ≡ stood.newest ∷ stood.second ∷ stood.third ∷ []
  folded_standing = ap standing entries ∙ three_stand (journal_of a) (bare a sound can) areas_sound can stood

  -- a withdrawn read is left if it is later than the oldest kept, and goes if not
  left_any : (oldest d v : ℕ) (ws : List Entry) → any (has_read d v) (those (λ w. ltb oldest w.day) ws) ≡ ltb oldest d && any (has_read d v) ws
  unfolding any those
  left_any oldest d v [] = sym (and-false (ltb oldest d))
  left_any oldest d v (w ∷ ws) =
      by_test (has_read d v w)
      (λ here.
      let same : ltb oldest w.day ≡ ltb oldest d = ap (ltb oldest) (read_is d v w here).0 in
      by_test (ltb oldest d)
      (λ t. rw (same, t, here))
      (λ t. rw (same, t) (left_any oldest d v ws ∙ rw t)))
      (λ other. kept_any (ltb oldest w.day) w (those (λ x. ltb oldest x.day) ws) other ∙ left_any oldest d v ws ∙ rw other)
    where
      kept_any : (b : Bool) (w : Entry) (es : List Entry) → has_read d v w ≡ false → any (has_read d v) (keep_if b w es) ≡ any (has_read d v) es
      kept_any true w es h = rw h
      kept_any false w es h = refl

  pub folded_left : (d v : ℕ) → any (has_read d v) (withdrawn es') ≡ ltb (kept_from es) d && any (has_read d v) (withdrawn es)
  folded_left d v = rw (entries, withdrawn_left (kept_from es) es) (left_any (kept_from es) d v (withdrawn es))

  -- so one that is not left is no later than the third last that stood
  pub folded_withdrawn : (d v : ℕ) → any (has_read d v) (withdrawn es) ≡ true → (any (has_read d v) (withdrawn es') ≡ true) ⊎ (d ≤ stood.third.day)
  folded_withdrawn d v h =
      let day : kept_from es ≡ stood.third.day = kept_from_lem es stood.newest stood.second stood.third (stood.fourth ∷ stood.older) stood.are (clauses_of _ _ areas_sound).rise in
      by_test (ltb (kept_from es) d)
      (λ t. inl (folded_left d v ∙ rw (t, h)))
      (λ t. inr (rw (← day) (ltb-false _ _ t)))
