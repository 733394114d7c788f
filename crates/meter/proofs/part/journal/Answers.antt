-- A length that is not 0 is that of a journal's entries, so the part lies within the place's area.
use mathlib.Core.Path.{◌≡◌, refl, sym, ◌∙◌}
use mathlib.Core.Bool.{Bool, true, false, cond}
use mathlib.Core.List.{List}
use mathlib.Core.Logic.{◌≢◌}
use Prim.Native.Nat.{ℕ, ◌+◌, ◌*◌, ◌-◌, ◌≤◌}
use native.Mathlib.Omega.{arith}
use borrow.Author.Tests.{eqb-true}
use lib.Dec.{eqb}
use lib.ListN.{length}
use Rattle.terms.specs.Number.{accepted}
use Rattle.terms.specs.Rule.{first_broken}
use Rattle.register.specs.Area.{area_bytes, area_of}
use Rattle.register.specs.Head.{head_of, offset_after, entry_offset}
use Rattle.register.proofs.Body.{head_room}
use Rattle.journal.proofs.Entries.{count_at_most}
use Rattle.calls.specs.Checks.{report_checks}
use Rattle.calls.specs.Calls.{place_number, length_in, journal_length, journal_part}
use Rattle.calls.proofs.Bools.{by_test}
use Rattle.std.specs.Prelude.{Ok}
use Rattle.place.specs.Located.{Locates}
use Rattle.place.proofs.Placed.{has_area}
use Rattle.meter.proofs.part.journal.Goals as goal

some : (placed : Bool) (n : ℕ) → cond placed n 0 ≢ 0 → (placed ≡ true) × (cond placed n 0 ≡ n)
some true n h = (refl, refl)
some false n h = absurd (h refl)

-- a journal lies within its area
length_at_most : (area : List ℕ) → length_in area ≤ area_bytes
unfolding length_in entry_offset offset_after
length_at_most area =
    by_test (eqb (first_broken (report_checks area)) accepted)
    (λ h. rw h (omega (arith, count_at_most area, head_room (head_of area))))
    (λ h. rw h (omega arith))

within : (p : ℕ) (register : List ℕ) {size : ℕ} → size ≡ journal_length p register → size ≢ 0 → area_bytes * p + size ≤ length register
unfolding journal_length
within p register e h =
    let area = area_of p register in
    let s = some (eqb (place_number p register) accepted) (length_in area) (λ z. h (e ∙ z)) in
    let there : Locates p register (Ok (area_bytes * p)) = record { number_is = sym (eqb-true _ _ s.0); start_is = refl } in
    omega (arith, has_area p register there, e, s.1, length_at_most area)

pub returns-then-size-eq0 : goal.returns-then-size-eq0
unfolding journal_part
returns-then-size-eq0 c =
    record {
      bytes_are = rw (← c.journal_length-size.ensures, c.if-size-eq0.true);
      starts = λ some. absurd (some refl);
    }

pub overflow_add-to : goal.overflow_add-to
overflow_add-to c = omega (arith, within _ _ c.journal_length-size.ensures c.if-size-eq0.false)

pub slice_bounds-result-end-2 : goal.slice_bounds-result-end-2
slice_bounds-result-end-2 c = omega (arith, within _ _ c.journal_length-size.ensures c.if-size-eq0.false)

pub returns : goal.returns
unfolding journal_part
returns c =
    let p = c.args.place in
    let size = c.journal_length-size.result in
    let same : area_bytes * p + size - area_bytes * p ≡ size = omega arith in
    record {
      bytes_are = rw (same, ← c.journal_length-size.ensures);
      starts = λ some. refl;
    }
