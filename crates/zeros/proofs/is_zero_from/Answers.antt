-- Past the end there are no bytes.
use Rattle.std.proofs.Common.{◌≤◌, length, arith}
use lib.ListN.{drop_of_length-le}
use Rattle.register.specs.Area.{all_zero}
use Rattle.zeros.proofs.is_zero_from.Goals as goal

pub returns-then-bytes-from : goal.returns-then-bytes-from
unfolding all_zero
returns-then-bytes-from c =
    let h : length c.args.bytes.now ≤ c.args.from = omega arith in rw (drop_of_length-le c.args.bytes.now h)
