-- An entry's body, there whole or cut, and where the next entry starts.
use mathlib.Core.Path.{◌≡◌, refl}
use mathlib.Core.Bool.{Bool, true, false, cond}
use mathlib.Core.List.{List}
use Prim.Native.Nat.{ℕ, ◌+◌, ◌-◌, ◌≤◌, ◌<◌}
use native.Mathlib.Omega.{arith}
use borrow.Author.Tests.{leb-true, le-leb, lt-leb}
use lib.Dec.{leb}
use lib.ListN.{length, take, drop}
use Rattle.register.specs.Bytes.{byte_at}
use Rattle.register.proofs.Parts.{part_byte, part_word, part_long}
use Rattle.calls.specs.declared.call.Call.{Call}
use Rattle.sheet.specs.declared.form.Form.{Form}
use Rattle.sheet.specs.declared.form.Form.TheVariants.{Enrol, Submit, Withdraw, Report, Fold}
use Rattle.sheet.specs.declared.split.Next.{Next}
use Rattle.sheet.specs.declared.split.Next.TheVariants.{Found, End, Fault}
use Rattle.std.specs.Prelude.{Option, Some, None}
use Rattle.sheet.specs.Sheet.{body_bytes, call_at, form_of, entry_at, next_at}

-- ---- a body that is lent: its call is that of the sheet where it starts
module _ (sheet : List ℕ) (i n : ℕ) where
  part_call : (form : Form) → body_bytes form ≤ n → call_at form (take n (drop i sheet)) 0 ≡ call_at form sheet i
  unfolding call_at
  part_call (Enrol profile) h =
      cc (
        part_byte sheet i n 0 i (omega arith) (omega arith),
        part_byte sheet i n 1 (i + 1) (omega arith) (omega arith),
        part_long sheet i n 2 (i + 2) (omega arith) (omega arith),
      )
  part_call Submit h =
      cc (
        part_byte sheet i n 0 i (omega arith) (omega arith),
        part_word sheet i n 1 (i + 1) (omega arith) (omega arith),
        part_word sheet i n 3 (i + 3) (omega arith) (omega arith),
        part_long sheet i n 5 (i + 5) (omega arith) (omega arith),
        part_byte sheet i n 9 (i + 9) (omega arith) (omega arith),
        part_byte sheet i n 10 (i + 10) (omega arith) (omega arith),
        part_byte sheet i n 11 (i + 11) (omega arith) (omega arith),
      )
  part_call Withdraw h =
      cc (
        part_byte sheet i n 0 i (omega arith) (omega arith),
        part_word sheet i n 1 (i + 1) (omega arith) (omega arith),
        part_long sheet i n 3 (i + 3) (omega arith) (omega arith),
      )
  part_call Report h = cc (part_byte sheet i n 0 i (omega arith) (omega arith))
  part_call Fold h = cc (part_byte sheet i n 0 i (omega arith) (omega arith))

pub lent : (sheet : List ℕ) (i : ℕ) (form : Form) → call_at form (take (i + body_bytes form - i) (drop i sheet)) 0 ≡ call_at form sheet i
lent sheet i form = part_call sheet i (i + body_bytes form - i) form (omega arith)

-- ---- what stands at a position, by its kind
module _ (sheet : List ℕ) (at : ℕ) where
  pub past : length sheet ≤ at → End ≡ next_at sheet at
  unfolding next_at
  past h = rw (le-leb (length sheet) at h)

  module _ (before : at < length sheet) where
    entry : {form : Option Form} → form ≡ form_of (byte_at sheet at) → entry_at form sheet at ≡ next_at sheet at
    unfolding next_at
    entry e = rw (lt-leb (length sheet) at before, e)

    pub unknown : None ≡ form_of (byte_at sheet at) → Fault ≡ next_at sheet at
    unfolding entry_at
    unknown e = entry e

    module _ {form : Form} {size : ℕ} (known : Some form ≡ form_of (byte_at sheet at)) (sized : size ≡ body_bytes form) where
      pub whole : at + 1 + size ≤ length sheet → Found (call_at form sheet (at + 1)) (at + 1 + size) ≡ next_at sheet at
      unfolding entry_at
      whole h = rw sized (rw (le-leb (at + 1 + body_bytes form) (length sheet) (omega arith)) at (entry known))

      pub cut : length sheet < at + 1 + size → Fault ≡ next_at sheet at
      unfolding entry_at
      cut h = rw (lt-leb (at + 1 + body_bytes form) (length sheet) (omega arith)) at (entry known)

-- ---- where the next entry starts
some_body : (form : Form) → 1 ≤ body_bytes form
some_body (Enrol profile) = omega arith
some_body Submit = omega arith
some_body Withdraw = omega arith
some_body Report = omega arith
some_body Fold = omega arith

module _ (sheet : List ℕ) (at : ℕ) where
  data Within : Next → Type 0 where
    at_end : Within End
    at_fault : Within Fault
    before_end : {call : Call} {next : ℕ} → at + 2 ≤ next → next ≤ length sheet → Within (Found call next)

  pick_within : (b : Bool) {x y : Next} → (b ≡ true → Within x) → Within y → Within (cond b x y)
  pick_within true h k = h refl
  pick_within false h k = k

  entry_within : (form : Option Form) → Within (entry_at form sheet at)
  unfolding entry_at
  entry_within (Some form) =
      pick_within (leb (at + 1 + body_bytes form) (length sheet)) (λ e. before_end (omega (arith, some_body form)) (leb-true _ _ e)) at_fault
  entry_within None = at_fault

  all_within : Within (next_at sheet at)
  unfolding next_at
  all_within = pick_within (leb (length sheet) at) (λ e. at_end) (entry_within (form_of (byte_at sheet at)))

  found_within : {call : Call} {next : ℕ} → Within (Found call next) → (at + 2 ≤ next) × (next ≤ length sheet)
  found_within (before_end h k) = (h, k)

  pub next_within : {call : Call} {next : ℕ} → Found call next ≡ next_at sheet at → (at + 2 ≤ next) × (next ≤ length sheet)
  next_within {call} {next} found = found_within {call = call} {next = next} (rw found all_within)
