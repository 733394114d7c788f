-- The bytes joined are zero where each of them is.
use Rattle.std.proofs.Common.{◌≡◌, fold, bit_or, rules}
use Rattle.zeros.proofs.Zero.{zero_each}
use Rattle.zeros.proofs.is_zero.Goals as goal

pub returns : goal.returns
returns c =
    let e : c.fold.result ≡ fold (λ bits b. bit_or bits b) 0 c.args.bytes.now = search rules in
    rw e (zero_each 0 c.args.bytes.now)
