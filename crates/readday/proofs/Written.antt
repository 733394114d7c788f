-- A sheet's text, written piece by piece: what was written so far, and then the text of the rest, is the whole.
use Rattle.std.proofs.Common.{◌≡◌, ℕ, ◌≤◌, List, [], ◌++◌, length, sym, ap, ◌∙◌, subst, append_assoc, append-nil}
use Rattle.std.specs.Prelude.{Option}
use Rattle.std.specs.Io.KnownBytes.{Appends}
use Rattle.std.proofs.KnownBytes.{Appends-nil, Appends-trans}
use Rattle.calls.specs.Play.{zero_register}
use Rattle.playing.specs.Whole.{text_from, text_of}
use Rattle.playing.specs.Piece.{rest_from}
use Rattle.playing.proofs.Pieces.{pieces_make_the_text}

module _ (sheet : List ℕ) where
  pub record Written (before after : Option (List ℕ)) (register : List ℕ) (at : ℕ) : Type 0 where
    pub text : List ℕ
    pub appended : Appends before after text
    pub whole : text_of sheet zero_register ≡ text ++ text_from (rest_from sheet at) register

  pub none_written : (known : Option (List ℕ)) {register : List ℕ} → register ≡ zero_register → Written known known register 0
  none_written known e =
      record {
        text = [];
        appended = Appends-nil known;
        whole = sym (pieces_make_the_text.starts sheet zero_register) ∙ ap (text_from (rest_from sheet 0)) (sym e);
      }

  pub piece_written : {a b c : Option (List ℕ)} {register register' : List ℕ} {at at' : ℕ} (piece : List ℕ) → Written a b register at → Appends b c piece → text_from (rest_from sheet at) register ≡ piece ++ text_from (rest_from sheet at') register' → Written a c register' at'
  piece_written {a} {b} {c} {register} {register'} {at} {at'} piece w appended e =
      record {
        text = w.text ++ piece;
        appended = Appends-trans a b c w.text piece w.appended appended;
        whole = w.whole ∙ ap (λ (l : List ℕ). w.text ++ l) e ∙ sym (append_assoc w.text piece (text_from (rest_from sheet at') register'));
      }

  pub all_written : {a b : Option (List ℕ)} {register : List ℕ} {at : ℕ} → Written a b register at → length sheet ≤ at → Appends a b (text_of sheet zero_register)
  all_written {a} {b} {register} {at} w h =
      subst (Appends a b) (sym (w.whole ∙ ap (λ (l : List ℕ). w.text ++ l) (pieces_make_the_text.ends sheet register at h) ∙ append-nil w.text)) w.appended
