-- The invariant over a whole run, and what it gives at the end: demand 3.
use mathlib.Core.Path.{◌≡◌, refl, sym, ap, ap₂, ◌∙◌}
use mathlib.Core.Logic.{inl, ⊎_elim}
use mathlib.Core.Bool.{true, false, ◌&&◌, cond}
use mathlib.Core.List.{List, [], ◌∷◌, ◌++◌}
use Prim.Native.Nat.{ℕ, zero, suc, ◌*◌, ◌-◌, ◌^◌, ◌<◌}
use native.Mathlib.Omega.{arith}
use lib.Dec.{eqb}
use lib.IntN.{ℤ, pos, ◌+ℤ◌, ◌*ℤ◌, *ℤ-zero}
use lib.ListN.{length, take, length-replicate, length-append}
use lib.Seq.{take_at}
use Rattle.terms.specs.declared.entry.Entry.{Entry}
use Rattle.terms.specs.Entry.{those}
use Rattle.terms.specs.Number.{accepted}
use Rattle.register.specs.Area.{area_bytes, areas_in, register_bytes, area_of, all_zero}
use Rattle.register.proofs.Areas.{area_length}
use Rattle.journal.specs.Journal.{standing}
use Rattle.journal.specs.Sound.{is_sound}
use Rattle.calls.specs.declared.call.Call.{Call}
use Rattle.calls.specs.Calls.{act, place_of, step}
use Rattle.calls.specs.Kept.{is_good}
use Rattle.calls.specs.Play.{Exchange, exchange, exchanges, register_after, zero_register, number_of, names}
use Rattle.journal.specs.Total.{flagged_of, flagged_in, first_in, total_of}
use Rattle.calls.specs.Ledger.{Named, named, Ledger, empty_ledger, entered, is_accepted, ledger_after, ledger_of, first_value_of, last_less_first, less_first, are_none_of}
use Rattle.calls.specs.DemandThree.{names_of, RunHolds, calls_b, DemandThree}
use Rattle.calls.proofs.Bools.{both, left_or, right_or, by_test}
use Rattle.calls.proofs.Frame.{Local, Whole, Near, near_all, room, own_reply, own_area_after, step_whole, named_place, unnamed_area, agree}
use Rattle.calls.proofs.Zeros.{zero_drop, zero_replicate}
use Rattle.calls.proofs.Totals.{flagged_none, flagged_bare, folded_bare, total_sum}
use Rattle.calls.proofs.Effects.{meter_head, standing_reads, Effects}
use Rattle.calls.proofs.Says.{first_named, none_older, total_none}
use Rattle.calls.proofs.Invariant.{Fresh, Live, Good, call_good}
use Rattle.calls.proofs.Unenrolled.{Without, without_enrolment}

-- whether an exchange is accepted at a meter
module _ (meter : ℕ) where
  accepted_here : (x : Exchange) → names meter x.call ≡ true → is_accepted meter x ≡ eqb (number_of x.reply) accepted
  unfolding is_accepted
  accepted_here x h = rw h

  accepted_there : (x : Exchange) → names meter x.call ≡ false → is_accepted meter x ≡ false
  unfolding is_accepted
  accepted_there x h = rw h

pub run_whole : Local → (calls : List Call) (register : List ℕ) → Whole register → Whole (register_after calls register)
unfolding register_after
run_whole local [] register whole = whole
run_whole local (call ∷ calls) register whole = run_whole local calls (step call register).register (step_whole local register whole call)

module _ (local : Local) (effects : Effects) (meter : ℕ) (near : Near meter) where
  -- one call of a run
  module _ (call : Call) (register : List ℕ) (whole : Whole register) (l : Ledger) (good : Good (area_of meter register) l) where
    abbrev x : Exchange
    x = exchange call (step call register).reply

    abbrev Entered : Type 0
    Entered = Good (area_of meter (step call register).register) (cond (is_accepted meter x) (entered call (step call register).reply l) l)

    own : names meter call ≡ true → Entered
    own named =
        let at = named_place meter call named in
        let here : place_of call < areas_in register = rw at (near register whole) in
        let size = area_length meter register (room meter register (near register whole) whole) in
        let bytes : area_of meter (step call register).register ≡ (act call (area_of meter register)).area = cc (own_area_after local register whole call here) in
        let reply : (step call register).reply ≡ (act call (area_of meter register)).reply = cc (own_reply local register whole call here) in
        rw (bytes, accepted_here meter x named, reply) (call_good effects (area_of meter register) l call size good)

    other : names meter call ≡ false → Entered
    other unnamed = rw (unnamed_area local register whole call meter unnamed, accepted_there meter x unnamed) good

    pub step_good : Entered
    step_good = by_test (names meter call) own other

  pub run_good : (calls : List Call) (register : List ℕ) → Whole register → (l : Ledger) → Good (area_of meter register) l → Good (area_of meter (register_after calls register)) (ledger_after meter (exchanges calls register) l)
  unfolding register_after exchanges ledger_after
  run_good [] register whole l good = good
  run_good (call ∷ calls) register whole l good =
      run_good calls (step call register).register (step_whole local register whole call) _ (step_good call register whole l good)

-- ---- the register of 32,768 zero bytes
zero_take : (n : ℕ) (l : List ℕ) → all_zero l ≡ true → all_zero (take n l) ≡ true
unfolding all_zero
zero_take zero l h = refl
zero_take (suc n) [] h = refl
zero_take (suc n) (b ∷ l) h = let p = both (eqb b 0) (all_zero l) h in ap₂ ◌&&◌ p.0 (zero_take n l p.1)

pub zero_whole : Whole zero_register
unfolding zero_register
zero_whole = length-replicate {A = ℕ} register_bytes 0

pub zero_area : (meter : ℕ) → all_zero (area_of meter zero_register) ≡ true
unfolding zero_register area_of
zero_area meter = zero_take area_bytes _ (zero_drop (area_bytes * meter) _ (zero_replicate register_bytes))

pub start_good : (meter : ℕ) → Good (area_of meter zero_register) empty_ledger
unfolding empty_ledger
start_good meter = inl (record { zero = zero_area meter; standing_is = refl; advances_are = refl; flags_are = refl; withdrawn_is = refl; folded_is = refl })

-- ---- a list less its first reads
less_older : (names older all : List Named) (folded : ℕ) → names ++ older ≡ all → length older ≡ folded → less_first folded all ≡ names
unfolding less_first
less_older names older all folded are count =
    let n : length all - folded ≡ length names = omega (arith, ap length (sym are) ∙ length-append names older, count) in
    ap (λ (k : ℕ). take k all) n ∙ ap (take (length names)) (sym are) ∙ take_at names older (length names) refl

less_none : (folded : ℕ) → less_first folded [] ≡ []
unfolding less_first
less_none folded = none (0 - folded)
  where
    none : (k : ℕ) → take {A = Named} k [] ≡ []
    none zero = refl
    none (suc k) = refl

-- ---- what the invariant gives at the end of a run
module _ (effects : Effects) (meter : ℕ) (xs : List Exchange) (register : List ℕ) (without : Without meter xs) where
  abbrev area : List ℕ
  area = area_of meter register

  abbrev l : Ledger
  l = ledger_of meter xs

  fresh_holds : Fresh area l → RunHolds meter xs register
  unfolding are_none_of last_less_first names_of those is_good
  fresh_holds f =
      record {
        sum = f.advances_are ∙ sym (ap₂ ◌+ℤ◌ (ap last_less_first f.standing_is) (ap (λ (z : ℤ). pos (10 ^ l.dials) *ℤ z) f.flags_are ∙ *ℤ-zero (pos (10 ^ l.dials))));
        apart = ap (λ (rs : List Named). are_none_of rs l.withdrawn) f.standing_is;
        stand = ap (λ (es : List Entry). names_of (standing es)) (effects.empty area f.zero) ∙ sym (ap (less_first l.folded) f.standing_is ∙ less_none l.folded);
        folded = effects.unfolded area f.zero ∙ sym f.folded_is;
        unenrolled = without;
        good = left_or (is_sound area) f.zero;
      }

  -- the sum, over the names of the reads that stand and of those that were folded
  live_sum : (g : Live area l) (ss : List Entry) → standing_reads area ≡ ss → l.advances ≡ last_less_first l.standing +ℤ pos (10 ^ l.dials) *ℤ l.flags
  unfolding names_of last_less_first first_named
  live_sum g [] none =
      let y = g.says in
      let bare = y.bare (y.stands none) in
      let empty : l.standing ≡ [] = sym y.standing_is ∙ ap (λ (ss : List Entry). names_of ss ++ y.older) none ∙ none_older y.older (y.older_are ∙ folded_bare (meter_head area) bare) in
      let flags : l.flags ≡ pos 0 = y.flags_are ∙ ap pos (flagged_bare (meter_head area) (standing_reads area) bare ∙ ap flagged_of none ∙ flagged_none) in
      y.advances_are ∙ ap (total_of (meter_head area)) none ∙ total_none (meter_head area)
      ∙ sym (ap₂ ◌+ℤ◌ (ap last_less_first empty) (ap (λ (z : ℤ). pos (10 ^ l.dials) *ℤ z) flags ∙ *ℤ-zero (pos (10 ^ l.dials))))
  live_sum g (s ∷ ss) are =
      let y = g.says in
      let head = meter_head area in
      let rest : List Named = names_of ss ++ y.older in
      let names : named s.day s.value ∷ rest ≡ l.standing = ap (λ (es : List Entry). names_of es ++ y.older) (sym are) ∙ y.standing_is in
      let first : first_value_of (named s.day s.value) rest ≡ first_in head (s ∷ ss) = ap first_named names ∙ y.first_is ∙ ap (first_in head) are in
      y.advances_are ∙ ap (total_of head) are
      ∙ total_sum head (effects.few_dials area g.sound) s ss rest first
      ∙ ap₂ ◌+ℤ◌ (ap last_less_first names) (ap₂ (λ (n : ℕ) (z : ℤ). pos (10 ^ n) *ℤ z) y.dials_are (ap (λ (es : List Entry). pos (flagged_in head es)) (sym are) ∙ sym y.flags_are))

  live_holds : Live area l → RunHolds meter xs register
  unfolding is_good less_first
  live_holds g =
      let y = g.says in
      record {
        sum = live_sum g (standing_reads area) refl;
        apart = y.apart;
        stand = sym (less_older (names_of (standing_reads area)) y.older l.standing l.folded y.standing_is (y.older_are ∙ y.folded_is));
        folded = y.folded_is;
        unenrolled = without;
        good = right_or (all_zero area) g.sound;
      }

  holds : Good area l → RunHolds meter xs register
  holds good = ⊎_elim fresh_holds live_holds good

-- ---- DEMAND 3
module _ (local : Local) (effects : Effects) (meter : ℕ) (near : Near meter) where
  in_run : (calls : List Call) → RunHolds meter (exchanges calls zero_register) (register_after calls zero_register)
  unfolding ledger_of
  in_run calls =
      holds effects meter (exchanges calls zero_register) (register_after calls zero_register)
      (without_enrolment local effects meter near calls zero_register zero_whole (zero_area meter))
      (run_good local effects meter near calls zero_register zero_whole empty_ledger (start_good meter))

pub demand_three : Local → Effects → DemandThree
unfolding DemandThree
demand_three local effects meter here calls =
    let near : Near meter = near_all meter zero_register zero_whole here in
    let same = agree local meter near calls zero_register zero_register zero_whole zero_whole refl in
    record {
      bytes = same.0;
      answers = same.1;
      in_a = in_run local effects meter near calls;
      in_b = in_run local effects meter near (calls_b meter calls);
    }
