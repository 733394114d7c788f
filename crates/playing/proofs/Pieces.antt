-- A sheet played piece by piece: a turn takes its line off the text that is left, and what a piece has put goes before the rest.
use mathlib.Core.Path.{◌≡◌, refl, sym, ap, ◌∙◌, subst}
use mathlib.Core.Bool.{Bool}
use mathlib.Core.List.{List, [], ◌∷◌, ◌++◌, append_assoc, append-nil}
use mathlib.Core.Logic.{◌⊎◌, inl, inr, ⊎_elim}
use Prim.Native.Nat.{ℕ, zero, suc, ◌+◌, ◌*◌, ◌-◌, ◌≤◌, ◌<◌}
use native.Mathlib.Nat.{le_refl}
use native.Mathlib.Omega.{arith}
use borrow.Author.Tests.{lt-ltb, le-ltb, ltb-true, ltb-false}
use lib.Dec.{ltb}
use lib.ListN.{length}
use Rattle.calls.specs.Play.{exchanges, register_after}
use Rattle.calls.proofs.Bools.{by_test}
use Rattle.playing.specs.declared.turn.Play.{Play}
use Rattle.playing.specs.declared.turn.Progress.{Progress}
use Rattle.sheet.specs.declared.split.Next.{Next}
use Rattle.sheet.specs.declared.split.Next.TheVariants.{Found, End, Fault}
use Rattle.sheet.specs.Sheet.{sheet_most, next_at, Split, go_on, split_from, split_of}
use Rattle.lines.specs.Put.{Put}
use Rattle.lines.specs.Line.{line_most}
use Rattle.lines.specs.Put.{put_bytes}
use Rattle.playing.specs.Whole.{fault_line, lines_of, text_from, text_of, printed_most}
use Rattle.playing.specs.Inner.Turn.{Kept, Turned}
use Rattle.playing.specs.Piece.{rest_from, PlayedFrom, PiecesMakeTheText}
use Rattle.sheet.proofs.Bodies.{next_within}
use Rattle.lines.proofs.Pasted.{put_both}
use Rattle.playing.proofs.Turns.{fault_length, kept_on, nothing, ended, put_shown, put_length}

-- ---- a sheet has no more entries than bytes: one more turn than bytes are left changes nothing
module _ (sheet : List ℕ) where
  abbrev More : ℕ → ℕ → Type 0
  More left at = split_from (suc left) sheet at ≡ split_from (suc (suc left)) sheet at

  more_entry : (left at : ℕ) (n : Next) → n ≡ next_at sheet at → ((next : ℕ) → at + 2 ≤ next → More left next) → go_on n (λ next. split_from (suc left) sheet next) ≡ go_on n (λ next. split_from (suc (suc left)) sheet next)
  unfolding go_on
  more_entry left at (Found call next) e rest = ap (λ (s : Split). record { calls = call ∷ s.calls; faulty = s.faulty }) (rest next (next_within sheet at e).0)
  more_entry left at End e rest = refl
  more_entry left at Fault e rest = refl

  enough : (left at : ℕ) → length sheet ≤ left + at → More left at
  unfolding split_from
  enough zero at h = ended sheet at 1 (omega arith) ∙ sym (ended sheet at 2 (omega arith))
  enough (suc left) at h = more_entry left at (next_at sheet at) refl (λ next on. enough left next (omega arith))

  -- so that after the first entry as many turns as bytes do
  all_but_one : (size at : ℕ) → length sheet ≡ size → 0 < at → split_from size sheet at ≡ split_from (suc size) sheet at
  all_but_one zero at e h = ended sheet at 0 (omega arith) ∙ sym (ended sheet at 1 (omega arith))
  all_but_one (suc size) at e h = enough size at (omega arith)

-- ---- what is left from a position on
module _ (sheet : List ℕ) where
  rest_short : (at : ℕ) → length sheet ≤ sheet_most → rest_from sheet at ≡ split_from (suc (length sheet)) sheet at
  unfolding rest_from
  rest_short at short = rw (le-ltb sheet_most (length sheet) short)

  rest_long : (at : ℕ) → sheet_most < length sheet → rest_from sheet at ≡ record { calls = []; faulty = ltb at (length sheet) }
  unfolding rest_from
  rest_long at long = rw (lt-ltb sheet_most (length sheet) long)

  by_length : {X : Type 0} → (length sheet ≤ sheet_most → X) → (sheet_most < length sheet → X) → X
  by_length short long = by_test (ltb sheet_most (length sheet)) (λ h. long (ltb-true _ _ h)) (λ h. short (ltb-false _ _ h))

  rest_ended : (at : ℕ) → length sheet ≤ at → rest_from sheet at ≡ nothing
  rest_ended at h =
      by_length
      (λ short. rest_short at short ∙ ended sheet at (suc (length sheet)) h)
      (λ long. rest_long at long ∙ ap (λ (b : Bool). record { calls = []; faulty = b }) (le-ltb at (length sheet) h))

  text_ended : (at : ℕ) (register : List ℕ) → length sheet ≤ at → text_from (rest_from sheet at) register ≡ []
  unfolding text_from lines_of exchanges
  text_ended at register h = rw (rest_ended at h)

  text_started : (register : List ℕ) → text_from (rest_from sheet 0) register ≡ text_of sheet register
  unfolding text_of split_of
  text_started register =
      by_length
      (λ short. rw (rest_short 0 short, le-ltb sheet_most (length sheet) short))
      (λ long. rw (rest_long 0 long, lt-ltb sheet_most (length sheet) long, lt-ltb 0 (length sheet) (omega arith)))

pub pieces_make_the_text : PiecesMakeTheText
pieces_make_the_text = record { starts = text_started; ends = λ sheet register at h. text_ended sheet at register h }

-- ---- one piece
module _ (sheet : List ℕ) (start : Play) where
  -- the loop's invariant: what was put and then the text of the rest is the text from the start on
  pub record Going (now : Play) : Type 0 where
    pub kept : Kept start now
    pub fits : now.so_far.end ≤ length now.out.now
    pub few : now.so_far.end ≤ printed_most * now.so_far.at
    pub moved : (now.so_far ≡ start.so_far) ⊎ (start.so_far.at < now.so_far.at)
    pub text : List ℕ
    pub put : Put start.out.now 0 text now.out.now now.so_far.end
    pub text_is : text_from (rest_from sheet start.so_far.at) start.register.now ≡ text ++ text_from (rest_from sheet now.so_far.at) now.register.now
    pub register_is : register_after (rest_from sheet now.so_far.at).calls now.register.now ≡ register_after (rest_from sheet start.so_far.at).calls start.register.now

  pub set_out : start.so_far.end ≡ 0 → Going start
  unfolding put_bytes
  set_out begins =
      record {
        kept = record { register = refl; out = refl };
        fits = omega (arith, begins);
        few = omega (arith, begins);
        moved = inl refl;
        text = [];
        put = record { bytes = refl; ends = omega (arith, begins) };
        text_is = refl;
        register_is = refl;
      }

  module _ {now : Play} (g : Going now) where
    moved_on : {next : ℕ} → now.so_far.at < next → start.so_far.at < next
    moved_on {next} on = ⊎_elim (λ e. let P : Progress → Type 0 = λ p. p.at < next in subst P e on) (λ l. omega arith) g.moved

    -- a turn takes its line off what is left
    module _ {next : Play} (short : length sheet ≤ sheet_most) (room : line_most ≤ length now.out.now - now.so_far.end) (kept : Kept now next) (t : Turned sheet now next) where
      rest_on : split_from (length sheet) sheet next.so_far.at ≡ rest_from sheet next.so_far.at
      rest_on =
          all_but_one sheet (length sheet) next.so_far.at refl (omega (arith, t.on)) ∙ sym (rest_short sheet next.so_far.at short)

      text_on : text_from (rest_from sheet now.so_far.at) now.register.now ≡ t.line ++ text_from (rest_from sheet next.so_far.at) next.register.now
      text_on = rw (rest_short sheet now.so_far.at short, ← rest_on) (t.text_is (length sheet))

      register_on : register_after (rest_from sheet next.so_far.at).calls next.register.now ≡ register_after (rest_from sheet now.so_far.at).calls now.register.now
      register_on = rw (rest_short sheet now.so_far.at short, ← rest_on) (t.register_is (length sheet))

      pub gone_on : Going next
      gone_on =
          record {
            kept = kept_on g.kept kept;
            fits = omega (arith, g.fits, t.put.ends, t.short, put_length t.put);
            few = t.few;
            moved = inr (moved_on t.on);
            text = g.text ++ t.line;
            put = put_both g.put t.put;
            text_is = g.text_is ∙ ap (λ (l : List ℕ). g.text ++ l) text_on ∙ sym (append_assoc g.text t.line (text_from (rest_from sheet next.so_far.at) next.register.now));
            register_is = register_on ∙ g.register_is;
          }

    -- where the loop stops: at the end, or where a line might not fit
    pub stopped : {register out : List ℕ} → register ≡ now.register.now → out ≡ now.out.now → start.so_far.end ≡ 0 → (now.so_far.at < length sheet → line_most ≤ length now.out.now - now.so_far.end → ⊥) → PlayedFrom sheet start.so_far.at start.register.now start.out.now now.so_far register out
    stopped after written begins stop =
        rw (after, written)
        (record {
          fits = λ room. omega (arith, g.fits, put_length g.put);
          on = λ room more. ⊎_elim (λ e. absurd (goes e more room)) (λ l. l) g.moved;
          text_is = λ room. rw (put_shown g.put (omega (arith, g.fits, put_length g.put))) g.text_is;
          register_is = g.register_is;
        })
      where
        goes : now.so_far ≡ start.so_far → start.so_far.at < length sheet → line_most ≤ length start.out.now → ⊥
        goes e more room =
            let still : now.so_far.at < length sheet = rw e more in
            let fit : line_most ≤ length now.out.now - now.so_far.end = omega (arith, ap (λ (p : Progress). p.end) e, begins, put_length g.put) in
            stop still fit

-- ---- a position past the end, and an over-long sheet
module _ {sheet : List ℕ} {start : ℕ} (register : List ℕ) {out : List ℕ} where
  pub none_left : length sheet ≤ start → PlayedFrom sheet start register out (record { at = start; end = 0 }) register out
  none_left h =
      record {
        fits = λ room. omega arith;
        on = λ room more. absurd (let f : ⊥ = omega arith in f);
        text_is = λ room. refl;
        register_is = refl;
      }

  pub too_long : start < length sheet → sheet_most < length sheet → {written : List ℕ} {end : ℕ} → Put out 0 fault_line written end → PlayedFrom sheet start register out (record { at = length sheet; end = end }) register written
  unfolding text_from lines_of exchanges register_after
  too_long more long put =
      record {
        fits = λ room. omega (arith, put.ends, fault_length);
        on = λ room _. more;
        text_is = λ room. rw (rest_long sheet start long, lt-ltb start (length sheet) more, rest_ended sheet (length sheet) (le_refl _), put_shown put (omega (arith, put.ends, fault_length)), append-nil);
        register_is = rw (rest_long sheet start long, rest_ended sheet (length sheet) (le_refl _));
      }
