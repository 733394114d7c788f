-- A sound journal, clause by clause.
use mathlib.Core.Path.{◌≡◌}
use mathlib.Core.Bool.{true}
use mathlib.Core.List.{List}
use Rattle.register.specs.declared.head.Head.{Head}
use Rattle.terms.specs.declared.entry.Entry.{Entry}
use Rattle.terms.specs.Entry.{those}
use Rattle.journal.specs.Journal.{is_kept, standing, withdrawn}
use Rattle.journal.specs.Sound.{every, is_read, days_rise, opens_right, has_one_final, is_held_right, are_apart, carries_right, are_in_order, are_sound}
use Rattle.calls.proofs.Bools.{both, together}
use Rattle.calls.proofs.Lists.{every_those, none_held, none_held_right, standing_kept, withdrawn_kept}

pub record Clauses (head : Head) (es : List Entry) : Type 0 where
  pub reads : every (is_read head) es ≡ true
  pub rise : days_rise (standing es) ≡ true
  pub opens : opens_right head (standing es) ≡ true
  pub final : has_one_final (standing es) ≡ true
  pub held : is_held_right es ≡ true
  pub apart : are_apart (standing es) (withdrawn es) ≡ true
  pub carry : carries_right head (standing es) ≡ true

module _ (head : Head) (es : List Entry) where
  pub clauses_of : are_sound head es ≡ true → Clauses head es
  unfolding are_sound are_in_order
  clauses_of h =
      let c = both (are_in_order head es) _ h in
      let d = both (are_apart (standing es) (withdrawn es)) (carries_right head (standing es)) c.1 in
      let c₁ = both (every (is_read head) es) _ c.0 in
      let c₂ = both (days_rise (standing es)) _ c₁.1 in
      let c₃ = both (opens_right head (standing es)) _ c₂.1 in
      let c₄ = both (has_one_final (standing es)) (is_held_right es) c₃.1 in
      record { reads = c₁.0; rise = c₂.0; opens = c₃.0; final = c₄.0; held = c₄.1; apart = d.0; carry = d.1 }

  pub of_clauses : Clauses head es → are_sound head es ≡ true
  unfolding are_sound are_in_order
  of_clauses c =
      together (together c.reads (together c.rise (together c.opens (together c.final c.held)))) (together c.apart c.carry)

-- the kept entries of a sound journal are one
pub kept_sound : (head : Head) (es : List Entry) → are_sound head es ≡ true → are_sound head (those is_kept es) ≡ true
kept_sound head es h =
    let c = clauses_of head es h in
    of_clauses head (those is_kept es) (record {
      reads = every_those (is_read head) is_kept es c.reads;
      rise = rw (standing_kept es) c.rise;
      opens = rw (standing_kept es) c.opens;
      final = rw (standing_kept es) c.final;
      held = none_held_right (those is_kept es) (none_held es);
      apart = rw (standing_kept es, withdrawn_kept es) c.apart;
      carry = rw (standing_kept es) c.carry;
    })
