-- A sheet played entry by entry: a turn takes the first call off what is left, and a fault or the end leaves nothing.
use mathlib.Core.Path.{◌≡◌, refl, ap, ◌∙◌}
use mathlib.Core.List.{List, [], ◌∷◌, ◌++◌, append_assoc, append-nil}
use mathlib.Core.Bool.{false}
use Prim.Native.Nat.{ℕ, zero, suc, ◌+◌, ◌*◌, ◌≤◌, ◌<◌}
use native.Mathlib.Nat.{le_refl}
use native.Mathlib.Omega.{arith}
use borrow.Author.Tests.{le-leb, lt-ltb, le-ltb}
use lib.ListN.{length, take}
use Rattle.calls.specs.declared.call.Call.{Call}
use Rattle.calls.specs.declared.call.Reply.{Reply}
use Rattle.calls.specs.Calls.{Done, done, step}
use Rattle.calls.specs.Play.{exchanges, register_after}
use Rattle.playing.specs.declared.turn.Play.{Play}
use Rattle.sheet.specs.declared.split.Next.TheVariants.{Found, End, Fault}
use Rattle.sheet.specs.Sheet.{sheet_most, next_at, next_number, Split, go_on, split_from, split_of}
use Rattle.lines.specs.Put.{Put}
use Rattle.lines.specs.Line.{line_of}
use Rattle.lines.specs.Put.{put_bytes}
use Rattle.playing.specs.Whole.{fault_line, lines_of, text_from, text_of, printed_most, Played}
use Rattle.playing.specs.Inner.Turn.{Leads, Due, Kept, Turned}
use Rattle.sheet.proofs.Bodies.{next_within}
use Rattle.lines.proofs.Pasted.{put_take, put_both, put_bytes_length}
use Rattle.lines.proofs.Lengths.{fault_line_lem, line_most_lem}

pub fault_length : length fault_line ≡ 7
unfolding next_number
fault_length = ap length fault_line_lem

abbrev pub nothing : Split
nothing = record { calls = []; faulty = false }

leads_same : (s : Split) (at : Play) → Leads s at s at
leads_same s at = record { register_is = refl; text_is = λ after end h. h }

leads_on : {a b c : Split} {x y z : Play} → Leads a x b y → Leads b y c z → Leads a x c z
leads_on p q =
    record {
      register_is = q.register_is ∙ p.register_is;
      text_is = λ after end h. p.text_is after end (q.text_is after end h);
    }

pub kept_on : {a b c : Play} → Kept a b → Kept b c → Kept a c
kept_on p q = record { register = q.register ∙ p.register; out = q.out ∙ p.out }

-- ---- a call before the others of a sheet
module _ (call : Call) (rest : Split) where
  abbrev before : Split
  before = record { calls = call ∷ rest.calls; faulty = rest.faulty }

  text_before : (register : List ℕ) → text_from before register ≡ line_of (step call register).reply ++ text_from rest (step call register).register
  unfolding text_from lines_of exchanges
  text_before register = rw append_assoc

  module _ {reply : Reply} (register : List ℕ) {register' : List ℕ} (stepped : done reply register' ≡ step call register) where
    call_text : text_from before register ≡ line_of reply ++ text_from rest register'
    call_text = rw (text_before, ← stepped)

    call_register : register_after rest.calls register' ≡ register_after before.calls register
    unfolding register_after
    call_register = ap (λ (d : Done). register_after rest.calls d.register) stepped

-- ---- at the end nothing is left
module _ (sheet : List ℕ) (at : ℕ) where
  pub ended : (left : ℕ) → length sheet ≤ at → split_from left sheet at ≡ nothing
  unfolding split_from go_on next_at
  ended zero h = refl
  ended (suc left) h = rw (le-leb (length sheet) at h)

all_played : (sheet : List ℕ) (left : ℕ) → split_from left sheet (length sheet) ≡ nothing
all_played sheet left = ended sheet (length sheet) left (le_refl _)

-- ---- one entry: a call, the end, or a fault
module _ (sheet : List ℕ) {before after : Play} (due : Due sheet before.so_far) where
  pub called : {call : Call} {next : ℕ} {reply : Reply} → Found call next ≡ next_at sheet before.so_far.at → after.so_far.at ≡ next → done reply after.register.now ≡ step call before.register.now → Put before.out.now before.so_far.end (line_of reply) after.out.now after.so_far.end → Turned sheet before after
  unfolding split_from go_on
  called {call} {next} {reply} found moved stepped put =
      let w = next_within sheet before.so_far.at found in
      record {
        on = omega (arith, moved);
        within = omega (arith, moved);
        few = omega (arith, moved, due.few, put.ends, line_most_lem reply);
        line = line_of reply;
        short = line_most_lem reply;
        put = put;
        text_is = λ left. rw (moved, ← found) (call_text call (split_from left sheet next) before.register.now stepped);
        register_is = λ left. rw (moved, ← found) (call_register call (split_from left sheet next) before.register.now stepped);
      }

  module _ (moved : after.so_far.at ≡ length sheet) where
    pub finished : End ≡ next_at sheet before.so_far.at → after.register.now ≡ before.register.now → after.out.now ≡ before.out.now → after.so_far.end ≡ before.so_far.end → Turned sheet before after
    unfolding split_from go_on text_from lines_of exchanges put_bytes
    finished found register out end =
        record {
          on = omega (arith, moved, due.more);
          within = omega (arith, moved);
          few = omega (arith, moved, end, due.few, due.more);
          line = [];
          short = omega arith;
          put = record { bytes = out; ends = omega (arith, end) };
          text_is = λ left. rw (moved, register, ← found, all_played sheet left);
          register_is = λ left. rw (moved, register, ← found, all_played sheet left);
        }

    pub faulted : Fault ≡ next_at sheet before.so_far.at → after.register.now ≡ before.register.now → Put before.out.now before.so_far.end fault_line after.out.now after.so_far.end → Turned sheet before after
    unfolding split_from go_on register_after text_from lines_of exchanges
    faulted found register put =
        record {
          on = omega (arith, moved, due.more);
          within = omega (arith, moved);
          few = omega (arith, moved, due.few, due.more, put.ends, fault_length);
          line = fault_line;
          short = omega (arith, fault_length);
          put = put;
          text_is = λ left. rw (moved, register, ← found, all_played sheet left, append-nil);
          register_is = λ left. rw (moved, register, ← found, all_played sheet left);
        }

-- ---- a turn leads on
turn_leads : {sheet : List ℕ} {before after : Play} → Turned sheet before after → (left : ℕ) → Leads (split_from (suc left) sheet before.so_far.at) before (split_from left sheet after.so_far.at) after
turn_leads t left =
    record {
      register_is = t.register_is left;
      text_is = λ written last h. rw (t.text_is left) (put_both t.put h);
    }

-- ---- the whole sheet
pub put_shown : {out text written : List ℕ} {end : ℕ} → Put out 0 text written end → end ≤ length out → take end written ≡ text
put_shown {out} {text} put fits = rw (put.ends, put.bytes) (put_take out 0 text (omega (arith, put.ends)))

pub put_length : {out text written : List ℕ} {at end : ℕ} → Put out at text written end → length written ≡ length out
put_length {out} {text} {written} {at} put = rw put.bytes (put_bytes_length out at text)

pub put_end : {out text written : List ℕ} {end : ℕ} → Put out 0 text written end → end ≡ length text
put_end put = omega (arith, put.ends)

module _ (sheet : List ℕ) (start : Play) where
  -- the loop's invariant: what is left of a sheet makes the whole of it, and no more entries are left than bytes
  pub record Playing (now : Play) : Type 0 where
    pub kept : Kept start now
    pub within : now.so_far.at ≤ length sheet
    pub few : now.so_far.end ≤ printed_most * now.so_far.at
    pub left : ℕ
    pub enough : length sheet ≤ left + now.so_far.at
    pub leads : Leads (split_of sheet) start (split_from (suc left) sheet now.so_far.at) now

  pub begun : start.so_far.at ≡ 0 → start.so_far.end ≡ 0 → length sheet ≤ sheet_most → Playing start
  unfolding split_of
  begun at end short =
      record {
        kept = record { register = refl; out = refl };
        within = omega (arith, at);
        few = omega (arith, at, end);
        left = length sheet;
        enough = omega arith;
        leads = rw (at, le-ltb sheet_most (length sheet) short) (leads_same _ _);
      }

  module _ {now : Play} (p : Playing now) where
    module _ {next : Play} (more : now.so_far.at < length sheet) (kept : Kept now next) (t : Turned sheet now next) where
      turn : (left : ℕ) → length sheet ≤ left + now.so_far.at → Leads (split_of sheet) start (split_from (suc left) sheet now.so_far.at) now → Playing next
      turn zero enough leads = absurd (omega arith)
      turn (suc left) enough leads =
          record {
            kept = kept_on p.kept kept;
            within = t.within;
            few = t.few;
            left = left;
            enough = omega (arith, t.on);
            leads = leads_on leads (turn_leads t (suc left));
          }

      pub turned : Playing next
      turned = turn p.left p.enough p.leads

    pub over : {register out : List ℕ} → register ≡ now.register.now → out ≡ now.out.now → start.so_far.end ≡ 0 → length sheet ≤ now.so_far.at → Played sheet start.register.now start.out.now register out now.so_far.end
    unfolding text_of text_from lines_of exchanges register_after put_bytes
    over after written begins h =
        let whole = rw (ended sheet now.so_far.at (suc p.left) h) at p.leads in
        let text = rw begins at (whole.text_is now.out.now now.so_far.end (record { bytes = refl; ends = omega arith })) in
        rw (after, written)
        (record {
          register_is = whole.register_is;
          text_is = text.bytes;
          end_is = put_end text;
          shown = put_shown text;
          most = omega (arith, p.within, p.few);
        })

-- "an over-long sheet gives that line alone"
pub over_long : {sheet register out written : List ℕ} {end : ℕ} → sheet_most < length sheet → Put out 0 fault_line written end → Played sheet register out register written end
unfolding split_of text_of text_from lines_of exchanges register_after
over_long {sheet} long put =
    let e = lt-ltb sheet_most (length sheet) long in
    record {
      register_is = rw e;
      text_is = rw e put.bytes;
      end_is = rw e (put_end put);
      shown = rw e (put_shown put);
      most = omega (arith, put.ends, fault_length);
    }
