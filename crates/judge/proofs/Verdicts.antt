-- What an area is, by what the pass over it says.
use Rattle.std.specs.Prelude.{Result, Ok, Err, Some, None}
use mathlib.Core.Path.{◌≡◌, refl, sym, ap, ◌∙◌}
use mathlib.Core.Bool.{Bool, true, false, not, ◌&&◌, cond, and-true, and-false}
use mathlib.Core.List.{List}
use Prim.Native.Nat.{ℕ}
use native.Mathlib.Omega.{arith}
use borrow.Author.Tests.{eqb-true}
use lib.Dec.{eqb}
use lib.ListN.{length, drop}
use Rattle.terms.specs.declared.entry.Entry.{Entry}
use Rattle.terms.specs.declared.refusal.Refusal.{Refusal}
use Rattle.terms.specs.declared.refusal.Refusal.TheVariants.{NoMeter, Damaged}
use Rattle.register.specs.Area.{area_bytes, all_zero}
use Rattle.register.specs.Entries.{entry_start}
use Rattle.register.specs.declared.head.Head.{Head}
use Rattle.register.specs.Head.{head_of, body_of}
use Rattle.judge.specs.declared.area.Found.{Found}
use Rattle.judge.specs.declared.area.Summary.{Summary}
use Rattle.judge.specs.declared.pass.Pass.{Pass}
use Rattle.journal.specs.Journal.{Journal, entries_to, entry_count, journal_of, standing, withdrawn}
use Rattle.journal.specs.Sound.{any, has_read, is_head, are_apart, carries_right, are_sound, is_sound}
use Rattle.judge.specs.Inner.Judged.{summary_of, judged, is_whole, judged_body, Counted}
use Rattle.judge.specs.Inner.Answered.{Answers}
use Rattle.judge.specs.Inner.Pass.{IsPassed}
use Rattle.journal.proofs.Bools.{both}
use Rattle.journal.proofs.Entries.{length_entries}

abbrev judges : Bool → Bool → Bool → Summary → Result Summary Refusal
judges b z s t = cond (not b) (Err Damaged) (cond z (Err NoMeter) (cond s (Ok t) (Err Damaged)))

no : {A : Type 0} {x y : Result Summary Refusal} → x ≡ y → (x ≡ y → ◌≡◌ {A = ℕ} 0 1) → A
no h f = absurd (let z = f h in omega arith)

sound_case : (b z s : Bool) (t : Summary) {u : Summary} → judges b z s t ≡ Ok u → (b ≡ true) × (s ≡ true) × (u ≡ t)
sound_case false z s t h = no h (λ e. cc)
sound_case true true s t h = no h (λ e. cc)
sound_case true false true t h = (refl, refl, cc)
sound_case true false false t h = no h (λ e. cc)

-- what is judged sound is counted
pub judged_counted : (a : List ℕ) {t : Summary} → Ok t ≡ judged a → Counted a t
unfolding judged
judged_counted a e =
    let c = sound_case (eqb (length a) area_bytes) (all_zero a) (is_sound a) (summary_of (journal_of a)) (sym e) in
    record { long = eqb-true (length a) area_bytes c.0; sound = c.1; summary = c.2 }

-- ---- the answer with it
pub sound_answers : {body : List ℕ} {day value : ℕ} {found : Result Summary Refusal} {f : Found} (head : Head) (k : ℕ) → f.summary ≡ summary_of (record { head = head; entries = entries_to k body }) → found ≡ Ok (summary_of (record { head = head; entries = entries_to k body })) → f.withdrawn ≡ any (has_read day value) (withdrawn (entries_to k body)) → Answers found body day value (Ok f)
unfolding summary_of
sound_answers {body} head k sums is among =
    record { found_is = ap Ok sums ∙ sym is; withdrawn_is = among ∙ sym (rw (sums, length_entries k body)) }

-- ---- a sound area by its head and its body
module _ (a : List ℕ) (t : Summary) (sound : is_sound a ≡ true) (summary : t ≡ summary_of (journal_of a)) where
  pub head_is : t.head ≡ head_of a
  unfolding summary_of journal_of
  head_is = ap (λ (u : Summary). u.head) summary

  pub entries_are : t.entries ≡ entry_count a
  unfolding summary_of journal_of
  entries_are = ap (λ (u : Summary). u.entries) summary ∙ length_entries (entry_count a) (body_of a)

  pub journal_is : journal_of a ≡ record { head = t.head; entries = entries_to t.entries (body_of a) }
  unfolding journal_of
  journal_is = rw (entries_are, head_is)

  pub body_sound : are_sound t.head (entries_to t.entries (body_of a)) ≡ true
  unfolding is_sound
  body_sound =
      let parts = both (is_head a) _ sound in
      let whole = (both (all_zero (drop (entry_start (entry_count a)) (body_of a))) _ parts.1).1 in
      ap (λ (h : Head). are_sound h (entries_to t.entries (body_of a))) head_is
      ∙ ap (λ (j : Journal). are_sound (head_of a) j.entries) (sym journal_is)
      ∙ whole

-- the answer about a read is the journal's
pub withdrawn_counted : (a : List ℕ) (day value : ℕ) {t : Summary} {b : Bool} → Counted a t → b ≡ any (has_read day value) (withdrawn (entries_to t.entries (body_of a))) → b ≡ any (has_read day value) (withdrawn (journal_of a).entries)
withdrawn_counted a day value {t} is e = e ∙ rw (journal_is a t is.sound is.summary)

-- ---- a body by the pass over it
module _ (head : Head) (body : List ℕ) where
  pub disordered : IsPassed head body None → is_whole head body ≡ false
  unfolding is_whole are_sound
  disordered h = rw (h, and-false)

  pub body_damaged : is_whole head body ≡ false → judged_body head body ≡ Err Damaged
  unfolding judged_body
  body_damaged h = rw h

  module _ (p : Pass) (is : IsPassed head body (Some p)) where
    abbrev es : List Entry
    es = entries_to p.run.count body

    -- what is left of the clauses where the entries are in order
    whole : is_whole head body ≡ all_zero (drop (entry_start p.run.count) body) && (are_apart (standing es) (withdrawn es) && carries_right head (standing es))
    unfolding is_whole are_sound
    whole = rw (← is.0, is.1.ordered)

    pub clashing : are_apart (standing es) (withdrawn es) ≡ false → false ≡ is_whole head body
    clashing h = rw (whole, h, and-false)

    pub miscarried : are_apart (standing es) (withdrawn es) ≡ true → carries_right head (standing es) ≡ false → false ≡ is_whole head body
    miscarried apart h = rw (whole, apart, h, and-false)

    pub then_ends : are_apart (standing es) (withdrawn es) ≡ true → carries_right head (standing es) ≡ true → all_zero (drop (entry_start p.run.count) body) ≡ is_whole head body
    then_ends apart carries = rw (whole, apart, carries, and-true)

    pub body_judged : is_whole head body ≡ true → judged_body head body ≡ Ok (summary_of (record { head = head; entries = entries_to p.run.count body }))
    unfolding judged_body
    body_judged h = rw (h, is.0)
