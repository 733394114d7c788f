-- A standing entry is the last, and the others move on.
use Rattle.std.specs.Prelude.{Some}
use mathlib.Core.Path.{◌≡◌, sym, ◌∙◌}
use mathlib.Core.Bool.{true, false}
use mathlib.Core.List.{List, ◌∷◌}
use Rattle.terms.specs.declared.entry.Entry.{Entry}
use Rattle.terms.specs.declared.entry.Recent.{Recent}
use Rattle.terms.specs.Entry.{is_standing, those, slot_at, recent_of}
use Rattle.journal.specs.Journal.{standing}
use Rattle.fold.proofs.kept.newer.Goals as goal

module _ (e : Entry) {kept : Recent} where
  stays_as : is_standing e ≡ false → (es : List Entry) → kept ≡ recent_of (standing es) → kept ≡ recent_of (standing (e ∷ es))
  unfolding those
  stays_as h es is = rw h is

  moves_on : is_standing e ≡ true → (es : List Entry) → kept ≡ recent_of (standing es) → record { last = Some e; second = kept.last; third = kept.second } ≡ recent_of (standing (e ∷ es))
  unfolding those recent_of slot_at
  moves_on h es is = rw (h, is)

pub returns-then-not-is_standing : goal.returns-then-not-is_standing
returns-then-not-is_standing c = λ es is. stays_as _ (sym c.is_standing.ensures ∙ c.if-not-is_standing.true) es is

pub returns : goal.returns
returns c = λ es is. moves_on _ (sym c.is_standing.ensures ∙ c.if-not-is_standing.false) es is
