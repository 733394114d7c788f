-- The part that is lent has the entry whole; or it has the rest of the bytes, or none past their end.
use Rattle.std.proofs.Common.{◌≡◌, ◌∙◌, ℕ, ◌+◌, ◌<◌, ◌≤◌, ◌⊎◌, inl, inr, List, [], length, Option, None, Some, MatchOption, Bor, arith}
use Rattle.std.specs.List.{slice_range}
use Rattle.std.specs.Option.{unwrap_or}
use Rattle.register.specs.Entries.{entry_at}
use Rattle.register.proofs.Parts.{part_entry, rest_entry, none_entry}
use Rattle.register.proofs.read.entry_after.Goals as goal

rest_of : (o : Option (Bor (List ℕ))) (none : Bor (List ℕ)) (bytes : List ℕ) (at : ℕ) → none.now ≡ [] → MatchOption o ((length bytes < at) ⊎ (length bytes < length bytes)) (λ x. (at ≤ length bytes) × (length bytes ≤ length bytes) × (x.now ≡ slice_range bytes at (length bytes)) × (length x.now + at ≡ length bytes)) → entry_at (unwrap_or o none).now 0 ≡ entry_at bytes at
rest_of None none bytes at e (inl h) = rw e (none_entry bytes at (omega arith))
rest_of None none bytes at e (inr h) = absurd (omega arith)
rest_of (Some x) none bytes at e h = rw h.2 (rest_entry bytes at)

pub returns-in-Some : goal.returns-in-Some
returns-in-Some c = let l = c.in-Some.ensures in c.entry_of.ensures ∙ rw l.lookup.0.2 (part_entry c.args.body.now _)

pub returns-in-None : goal.returns-in-None
returns-in-None c = c.entry_of-in-None.ensures ∙ rw c.unwrap_or.ensures (rest_of _ _ _ _ (λ _. []) c.get-in-None.ensures.lookup.0)
