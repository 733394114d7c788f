-- 512 bytes that are not all zero are sound where their head is one and their body is sound after it.
use Rattle.std.specs.Prelude.{Result, Err}
use mathlib.Core.Path.{◌≡◌, refl, sym, ◌∙◌}
use mathlib.Core.Bool.{true, false}
use mathlib.Core.List.{List}
use Prim.Native.Nat.{ℕ}
use native.Mathlib.Omega.{arith}
use lib.ListN.{length}
use Rattle.terms.specs.declared.refusal.Refusal.{Refusal}
use Rattle.terms.specs.declared.refusal.Refusal.TheVariants.{Damaged}
use Rattle.register.specs.declared.head.Head.{Head}
use Rattle.terms.proofs.Refusals.{passed_on}
use Rattle.register.specs.Area.{area_bytes, all_zero}
use Rattle.register.specs.Head.{head_of, body_of}
use Rattle.register.proofs.Body.{body_length, body_lent, lent_room}
use Rattle.journal.specs.Journal.{entry_count, journal_of}
use Rattle.journal.specs.Sound.{is_head, is_sound}
use Rattle.judge.specs.declared.area.Found.{Found}
use Rattle.judge.specs.Inner.Answered.{Answers}
use Rattle.judge.specs.Inner.Judged.{judged, is_whole, judged_body}
use Rattle.judge.proofs.Numbers.{judges, refused}
use Rattle.judge.proofs.Verdicts.{judged_counted, withdrawn_counted}
use Rattle.judge.proofs.area.judge_journal.Goals as goal

module _ (a : List ℕ) (known : (length a ≡ area_bytes) × (all_zero a ≡ false)) where
  headless : is_head a ≡ false → judged a ≡ Err Damaged
  unfolding judged is_sound
  headless h = rw (known.0, known.1, h)

  by_body : is_head a ≡ true → judged a ≡ judged_body (head_of a) (body_of a)
  unfolding judged is_sound judged_body is_whole entry_count journal_of
  by_body h = rw (known.0, known.1, h)

  -- what is found of the body is found of the area
  of_area : {head : Head} {part : List ℕ} {day value : ℕ} {r : Result Found Refusal} → is_head a ≡ true → head ≡ head_of a → part ≡ body_of a → Answers (judged_body head part) part day value r → Answers (judged a) (body_of a) day value r
  of_area h e p answers = rw (by_body h, ← p, ← e) answers

pub returns-then-not-is_head : goal.returns-then-not-is_head
returns-then-not-is_head c = refused _ (sym (headless _ c.requires (sym c.is_head.ensures ∙ c.if-not-is_head.true)))

-- where the body starts
pub slice_bounds-new-count : goal.slice_bounds-new-count
slice_bounds-new-count c =
    let area = c.args.area.now in
    let starts = rw c.head_of-head.ensures at c.head_bytes-start.ensures in
    omega (arith, starts, body_length area c.requires.0)

pub slice_bounds-new-start : goal.slice_bounds-new-start
slice_bounds-new-start c =
    let area = c.args.area.now in
    let starts = rw c.head_of-head.ensures at c.head_bytes-start.ensures in
    omega (arith, starts, body_length area c.requires.0)

pub new-requires : goal.new-requires
new-requires c =
    let area = c.args.area.now in
    let starts = rw c.head_of-head.ensures at c.head_bytes-start.ensures in
    lent_room area c.head_of-head.result c.head_bytes-start.result c.head_of-head.ensures starts c.requires.0

pub returns-in_err-found : goal.returns-in_err-found
returns-in_err-found c =
    let area = c.args.area.now in
    let starts = rw c.head_of-head.ensures at c.head_bytes-start.ensures in
    let answers = of_area area c.requires (sym c.is_head.ensures ∙ c.if-not-is_head.false) c.head_of-head.ensures (body_lent area c.head_bytes-start.result starts) (rw (c.new.ensures.0, c.new.ensures.1) at c.in_err-found.ensures) in
    rw (passed_on _ c.from_residual.ensures.1) (refused area answers.found_is)

pub invariant_of-result : goal.invariant_of-result
invariant_of-result c =
    let area = c.args.area.now in
    let starts = rw c.head_of-head.ensures at c.head_bytes-start.ensures in
    let answers = of_area area c.requires (sym c.is_head.ensures ∙ c.if-not-is_head.false) c.head_of-head.ensures (body_lent area c.head_bytes-start.result starts) (rw (c.new.ensures.0, c.new.ensures.1) at c.in_ok-found.ensures) in
    record { counted = judged_counted area answers.found_is }

pub returns : goal.returns
returns c =
    let area = c.args.area.now in
    let starts = rw c.head_of-head.ensures at c.head_bytes-start.ensures in
    let answers = of_area area c.requires (sym c.is_head.ensures ∙ c.if-not-is_head.false) c.head_of-head.ensures (body_lent area c.head_bytes-start.result starts) (rw (c.new.ensures.0, c.new.ensures.1) at c.in_ok-found.ensures) in
    judges
    area
    _
    answers.found_is
    refl
    (withdrawn_counted area _ _ (judged_counted area answers.found_is) answers.withdrawn_is)
