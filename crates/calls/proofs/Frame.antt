-- What a call does to the areas of a register: the meter that it names gets what `act` says of its own area, every other keeps its bytes. So
-- run A and run B agree at a meter.
use mathlib.Core.Path.{◌≡◌, refl, sym, ap, ap₂, ◌∙◌}
use mathlib.Core.Logic.{◌⊎◌, inl, inr}
use mathlib.Core.Bool.{Bool, true, false, not}
use mathlib.Core.List.{List, [], ◌∷◌}
use Prim.Native.Nat.{ℕ, ◌+◌, ◌*◌, ◌≤◌, ◌<◌}
use native.Mathlib.Omega.{arith}
use native.Mathlib.Decide.{dec_lt}
use borrow.Author.Tests.{eqb-true, eqb-false, eq-eqb, leb-false, leb-true, lt-leb, le-leb}
use lib.Dec.{eqb, leb}
use lib.ListN.{length}
use Rattle.terms.specs.Number.{no_meter}
use Rattle.register.specs.Area.{area_bytes, areas_in, register_bytes, area_of, with_area}
use Rattle.register.proofs.Areas.{area_room, same_areas, area_length, with_length, area_same, area_other}
use Rattle.calls.specs.declared.call.Call.{Call}
use Rattle.calls.specs.declared.call.Reply.{Reply}
use Rattle.calls.specs.Calls.{act, place_of, refusal_of, is_misfit, is_no_place, place_number, on_area, Done, done, step}
use Rattle.calls.proofs.Bools.{both, by_test}
use Rattle.calls.proofs.Tried.{untouched}
use Rattle.calls.specs.Play.{Exchange, exchange, exchange_if, exchanges, register_after, number_of, may_change, is_trial, names, is_picked, picked, calls_of}

-- ---- the two laws of `act` that the frame rests on
pub record Local : Type 0 where
  -- an area stays as long as it is
  pub size : (call : Call) (area : List ℕ) → length area ≡ area_bytes → length (act call area).area ≡ area_bytes
  -- any number but 0, 19 and 20 changes no byte
  pub unchanged : (call : Call) (area : List ℕ) → may_change (number_of (act call area).reply) ≡ false → (act call area).area ≡ area

abbrev pub Whole : List ℕ → Type 0
Whole register = length register ≡ register_bytes

pub room : (p : ℕ) (register : List ℕ) → p < areas_in register → Whole register → area_bytes * p + area_bytes ≤ length register
room p register near whole = area_room p register whole near

-- a place that every whole register has
abbrev pub Near : ℕ → Type 0
Near p = (register : List ℕ) → Whole register → p < areas_in register

pub near_all : (p : ℕ) (register : List ℕ) → Whole register → p < areas_in register → Near p
near_all p register whole near other whole' = rw (same_areas other register (whole' ∙ sym whole)) near

module _ (local : Local) (register : List ℕ) (whole : Whole register) (call : Call) where
  abbrev place : ℕ
  place = place_of call

  -- what is put back
  abbrev new : List ℕ
  new = (act call (area_of place register)).area

  fitting : is_misfit register ≡ false
  unfolding is_misfit
  fitting = ap not (eq-eqb (length register) register_bytes whole)

  -- a place that the register has
  module _ (near : place < areas_in register) where
    new_length : length new ≡ area_bytes
    new_length = local.size call (area_of place register) (area_length place register (room place register near whole))

    acts : step call register ≡ on_area place (act call (area_of place register)) register
    unfolding step place_number is_no_place
    acts = rw (fitting, lt-leb (areas_in register) place near)

    pub own_reply : (step call register).reply ≡ (act call (area_of place register)).reply
    unfolding on_area
    own_reply = ap (λ (d : Done). d.reply) acts

    put_back : (step call register).register ≡ with_area place new register
    unfolding on_area
    put_back = ap (λ (d : Done). d.register) acts

    pub own_area_after : area_of place (step call register).register ≡ new
    own_area_after = ap (area_of place) put_back ∙ area_same place new register new_length (room place register near whole)

  pub refuses : areas_in register ≤ place → step call register ≡ done (refusal_of call no_meter) register
  unfolding step place_number is_no_place
  refuses far = rw (fitting, le-leb (areas_in register) place far)

  left : areas_in register ≤ place → (step call register).register ≡ register
  left far = ap (λ (d : Done). d.register) (refuses far)

  -- case on whether the register has the place
  by_place {ℓ} : {X : Type ℓ} → (place < areas_in register → X) → (areas_in register ≤ place → X) → X
  by_place near far = by_test (leb (areas_in register) place) (λ h. far (leb-true _ place h)) (λ h. near (leb-false _ place h))

  pub step_whole : Whole (step call register).register
  step_whole =
      by_place
      (λ near. ap length (put_back near) ∙ with_length place new register (new_length near) (room place register near whole) ∙ whole)
      (λ far. ap length (left far) ∙ whole)

  pub other_area : (p : ℕ) → (place ≡ p → ⊥) → area_of p (step call register).register ≡ area_of p register
  other_area p apart =
      by_place
      (λ near. ap (area_of p) (put_back near) ∙ area_other place new register (new_length near) (room place register near whole) p (side (dec_lt p place)))
      (λ far. ap (area_of p) (left far))
    where
      side : Dec (p < place) → (p < place) ⊎ (place < p)
      side (yes l) = inl l
      side (no l) = inr (omega arith)

-- a call that names a meter is at its place, and one that does not leaves its bytes: it is at another, or a trial
pub named_place : (meter : ℕ) (call : Call) → names meter call ≡ true → place_of call ≡ meter
unfolding names
named_place meter call h = eqb-true _ _ (both (not (is_trial call)) (eqb (place_of call) meter) h).1

pub unnamed_area : Local → (register : List ℕ) → Whole register → (call : Call) (meter : ℕ) → names meter call ≡ false → area_of meter (step call register).register ≡ area_of meter register
unfolding names
unnamed_area local register whole call meter h =
    by_test (is_trial call)
    (λ t. ap (area_of meter) (untouched call t register))
    (λ t. other_area local register whole call meter (eqb-false _ _ (rw t at h)))

-- a call that the areas of its place answer alike is answered alike by the registers
module _ (local : Local) (A B : List ℕ) (w_a : Whole A) (w_b : Whole B) (call : Call) where
  pub same_answer : (act call (area_of (place_of call) A)).reply ≡ (act call (area_of (place_of call) B)).reply → (step call A).reply ≡ (step call B).reply
  same_answer alike =
      let areas : areas_in B ≡ areas_in A = same_areas B A (w_b ∙ sym w_a) in
      by_place local A w_a call
      (λ near. own_reply local A w_a call near ∙ alike ∙ sym (own_reply local B w_b call (rw areas near)))
      (λ far. ap (λ (d : Done). d.reply) (refuses local A w_a call far) ∙ sym (ap (λ (d : Done). d.reply) (refuses local B w_b call (rw areas far))))

-- ---- the two runs from registers that agree at a meter
abbrev Agree : ℕ → List Call → Type 0
Agree meter calls =
    (A B : List ℕ) → Whole A → Whole B → area_of meter A ≡ area_of meter B →
    (area_of meter (register_after calls A) ≡ area_of meter (register_after (calls_of (picked meter (exchanges calls A))) B))
    × (exchanges (calls_of (picked meter (exchanges calls A))) B ≡ picked meter (exchanges calls A))

module _ (local : Local) (meter : ℕ) (near : Near meter) where
  -- a call of the meter does the same to both, and is answered the same
  module _ (call : Call) (own : place_of call ≡ meter) (A B : List ℕ) (w_a : Whole A) (w_b : Whole B) (e : area_of meter A ≡ area_of meter B) where
    near_a : place_of call < areas_in A
    near_a = rw own (near A w_a)

    near_b : place_of call < areas_in B
    near_b = rw own (near B w_b)

    same_area : area_of meter (step call A).register ≡ area_of meter (step call B).register
    same_area = cc (own_area_after local A w_a call near_a, own_area_after local B w_b call near_b)

    same_reply : (step call A).reply ≡ (step call B).reply
    same_reply = cc (own_reply local A w_a call near_a, own_reply local B w_b call near_b)

  -- a refused one leaves the meter as it was
  same_refused : (call : Call) → place_of call ≡ meter → (A : List ℕ) → Whole A → may_change (number_of (step call A).reply) ≡ false → area_of meter (step call A).register ≡ area_of meter A
  same_refused call own A w_a h =
      let place_near : place_of call < areas_in A = rw own (near A w_a) in
      let r : may_change (number_of (act call (area_of (place_of call) A)).reply) ≡ false =
      ap (λ (y : Reply). may_change (number_of y)) (sym (own_reply local A w_a call place_near)) ∙ h
      in
      cc (own_area_after local A w_a call place_near, local.unchanged call (area_of (place_of call) A) r)

  -- a call that run B plays names the meter; one that it leaves out does nothing there
  module _ (call : Call) (A : List ℕ) (w_a : Whole A) where
    abbrev answered : Exchange
    answered = exchange call (step call A).reply

    owned : is_picked meter answered ≡ true → place_of call ≡ meter
    unfolding is_picked
    owned h = named_place meter call (both (names meter call) _ h).0

    left_out : is_picked meter answered ≡ false → area_of meter (step call A).register ≡ area_of meter A
    unfolding is_picked
    left_out h =
        by_test (names meter call)
        (λ t. same_refused call (named_place meter call t) A w_a (rw t at h))
        (unnamed_area local A w_a call meter)

  picked_more : (b : Bool) (x : Exchange) (xs : List Exchange) → is_picked meter x ≡ b → picked meter (x ∷ xs) ≡ exchange_if b x (picked meter xs)
  unfolding picked
  picked_more b x xs h = ap (λ (t : Bool). exchange_if t x (picked meter xs)) h

  module _ (call : Call) (calls : List Call) (rest : Agree meter calls) where
    more : Agree meter (call ∷ calls)
    unfolding exchanges register_after calls_of
    more A B w_a w_b e =
        let x = exchange call (step call A).reply in
        let xs = exchanges calls (step call A).register in
        by_test (is_picked meter x)
        (λ h.
        let own = owned call A w_a h in
        let r = rest (step call A).register (step call B).register (step_whole local A w_a call) (step_whole local B w_b call) (same_area call own A B w_a w_b e) in
        rw (picked_more true x xs h) (r.0, ap₂ ◌∷◌ (ap (exchange call) (sym (same_reply call own A B w_a w_b e))) r.1))
        (λ h. rw (picked_more false x xs h) (rest (step call A).register B (step_whole local A w_a call) w_b (left_out call A w_a h ∙ e)))

  pub agree : (calls : List Call) → Agree meter calls
  unfolding exchanges register_after picked calls_of
  agree [] = λ A B w_a w_b e. (e, refl)
  agree (call ∷ calls) = more call calls (agree calls)
