-- Each flag is 1 at most.
use native.Mathlib.Omega.{arith}
use Rattle.fold.specs.Inner.Flags.{flags_in}
use Rattle.fold.proofs.Flags.{flag_few}
use Rattle.fold.proofs.carry.flags_in.Goals as goal

pub overflow_add-result : goal.overflow_add-result
overflow_add-result c = omega (arith, c.flag_in.ensures, flag_few c.args.kept.last, c.flag_in-2.ensures, flag_few c.args.kept.second)

pub overflow_add-result-2 : goal.overflow_add-result-2
overflow_add-result-2 c = omega (arith, c.flag_in.ensures, flag_few c.args.kept.last, c.flag_in-2.ensures, flag_few c.args.kept.second, c.flag_in-3.ensures, flag_few c.args.kept.third)

pub returns : goal.returns
unfolding flags_in
returns c = cc (c.flag_in.ensures, c.flag_in-2.ensures, c.flag_in-3.ensures)
