-- What every call shares: a refused place changes nothing, and a call on the area that is lent is the step on the register.
use mathlib.Core.Path.{◌≡◌, refl, sym, ap, ◌∙◌}
use mathlib.Core.Bool.{Bool, true, false, cond}
use mathlib.Core.List.{List}
use Prim.Native.Nat.{ℕ, suc, ◌+◌, ◌*◌, ◌-◌, ◌≤◌, ◌<◌}
use native.Mathlib.Omega.{arith}
use borrow.Author.Tests.{eqb-true, leb-false, not-false}
use borrow.Rule.Slice.PartMut.{mid_of, put_mid}
use lib.Dec.{eqb}
use lib.ListN.{length}
use Rattle.std.specs.Prelude.{Ok, Err}
use Rattle.terms.specs.declared.refusal.Refusal.{Refusal}
use Rattle.terms.specs.Number.{accepted}
use Rattle.terms.specs.Refusal.{number_of}
use Rattle.terms.proofs.Refusals.{refuses}
use Rattle.register.specs.Area.{area_bytes, areas_in, register_bytes, area_of}
use Rattle.register.proofs.Lent.{lent, back}
use Rattle.register.proofs.Areas.{area_room, area_length, own_area}
use Rattle.calls.specs.declared.call.Call.{Call}
use Rattle.calls.specs.declared.call.Reply.{Reply}
use Rattle.calls.specs.Calls.{is_misfit, is_no_place, place_number, place_of, refusal_of, acted, act, done, on_area, step}
use Rattle.place.specs.Located.{Locates}

-- a number that is 0 is past its first rule
past : (b : Bool) (n m : ℕ) → cond b (suc n) m ≡ 0 → (b ≡ false) × (m ≡ 0)
past true n m h = absurd (let z : suc n ≡ 0 = h in let f : ⊥ = omega arith in f)
past false n m h = (refl, h)

-- ---- a place that is refused
pub is_refused : (p : ℕ) (register : List ℕ) {refusal : Refusal} → Locates p register (Err refusal) → eqb (place_number p register) accepted ≡ false
is_refused p register {refusal} e = rw (← e.number_is) (refuses refusal)

-- ---- a place that the register has
module _ (p : ℕ) (register : List ℕ) {start : ℕ} (e : Locates p register (Ok start)) where
  pub is_accepted_lem : place_number p register ≡ accepted
  is_accepted_lem = sym e.number_is

  pub starts : area_bytes * p ≡ start
  starts = sym e.start_is

  pub whole : length register ≡ register_bytes
  unfolding place_number is_misfit
  whole = eqb-true _ _ (not-false _ (past (is_misfit register) 1 _ is_accepted_lem).0)

  near : p < areas_in register
  unfolding place_number is_no_place
  near = leb-false _ _ (past (is_no_place p register) 2 _ (past (is_misfit register) 1 _ is_accepted_lem).1).0

  -- its area is there
  pub has_area : start + area_bytes ≤ length register
  has_area = omega (arith, starts, area_room p register whole near)

  -- what is lent is the area
  pub lent_is : mid_of start (start + area_bytes - start) register ≡ area_of p register
  lent_is = rw (← starts) (lent p register)

  pub lent_length : length (mid_of start (start + area_bytes - start) register) ≡ area_bytes
  lent_length = rw lent_is (area_length p register (area_room p register whole near))

-- ---- a call at a place
module _ (call : Call) (register : List ℕ) where
  abbrev p : ℕ
  p = place_of call

  pub refuses_call : {refusal : Refusal} → Locates p register (Err refusal) → done (refusal_of call (number_of refusal)) register ≡ step call register
  unfolding step
  refuses_call e = rw (is_refused p register e, ← e.number_is)

  module _ {start : ℕ} (e : Locates p register (Ok start)) where
    acts : step call register ≡ on_area p (act call (area_of p register)) register
    unfolding step
    acts = rw (is_accepted_lem p register e)

    -- what comes back is the register with the new area
    pub writes : {reply : Reply} {area : List ℕ} → acted reply area ≡ act call (mid_of start (start + area_bytes - start) register) → done reply (put_mid start (start + area_bytes - start) register area) ≡ step call register
    unfolding on_area
    writes {reply} {area} h =
        let same : acted reply area ≡ act call (area_of p register) = rw (lent_is p register e) at h in
        let put = ap (λ (n : ℕ). put_mid n (n + area_bytes - n) register area) (sym (starts p register e)) ∙ back p register area in
        rw (acts, ← same, put)

    -- a call that only looks
    pub keeps : {reply : Reply} → acted reply (mid_of start (start + area_bytes - start) register) ≡ act call (mid_of start (start + area_bytes - start) register) → done reply register ≡ step call register
    unfolding on_area
    keeps {reply} h =
        let same : acted reply (area_of p register) ≡ act call (area_of p register) = rw (lent_is p register e) at h in
        rw (acts, ← same, own_area p register)

    -- what the area answers is the call's answer
    pub answers : {reply : Reply} → reply ≡ (act call (mid_of start (start + area_bytes - start) register)).reply → reply ≡ (step call register).reply
    unfolding on_area
    answers {reply} h =
        let same : reply ≡ (act call (area_of p register)).reply = rw (lent_is p register e) at h in
        rw acts same
