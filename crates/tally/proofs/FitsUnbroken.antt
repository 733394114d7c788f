-- A tally that fits is not broken.
use mathlib.Core.Path.{◌≡◌}
use mathlib.Core.Bool.{false}
use borrow.Author.Tests.{le-ltb}
use Rattle.journal.specs.Sound.{least_dials, most_dials}
use Rattle.tally.specs.declared.tally.Tally.{Tally}
use Rattle.tally.specs.Tally.{has_other_dials, most_standing, is_broken}
use Rattle.tally.proofs.Fits.{Fits}
use Rattle.tally.proofs.FitValues.{is_value}

module _ (t : Tally) (fits : Fits t) where
  pub not_broken : is_broken t ≡ false
  unfolding is_broken has_other_dials
  not_broken =
      rw (
        le-ltb t.dials least_dials fits.least,
        le-ltb most_dials t.dials fits.most,
        is_value t t.first fits.first_shown (λ none. (fits.none none).0),
        is_value t t.last fits.last_shown (λ none. (fits.none none).1),
        le-ltb t.standing t.flagged fits.fewer,
        le-ltb most_standing t.standing fits.few,
      )
