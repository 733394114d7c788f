-- What is passed and the last bytes are all there is.
use Rattle.std.proofs.Common.{◌≡◌, ◌+◌, ◌-◌, length, arith}
use Rattle.std.proofs.lemmas.List.{take_rest}
use Rattle.register.specs.Area.{all_zero}
use Rattle.zeros.proofs.Zero.{zero_passed, zero_all}
use Rattle.zeros.proofs.is_zero_by.Goals as goal
use Rattle.zeros.proofs.is_zero_by.Goals.{else-loop-i-test, then-loop-i-test+else-i-step-last}

pub loop-i-init : goal.loop-i-init
unfolding all_zero
loop-i-init g c =
    let e : c.args.from - c.args.from ≡ 0 = omega arith in
    rw e (rw (← take_rest c.args.bytes.now (length c.args.bytes.now - g.row.N)) c.bits_of-bits.ensures)

pub loop-i-preserved : goal.loop-i-preserved
loop-i-preserved g c = zero_passed _ _ _ _ _ _ _ c.loop-i.auto.i c.loop-i.invariant c.bits_of-bits-in-loop-i.ensures

pub returns : goal.returns
returns g c =
    let all = zero_all c.args.from in
    elim c.loop-i-test.branch [
      | else-loop-i-test w ↦ rw w.bits-is (all c.loop-i.i c.args.bytes.now (length c.args.bytes.now - g.row.N) c.loop-i.bits (omega arith) (omega arith) c.loop-i.invariant)
      | then-loop-i-test+else-i-step-last w ↦
          let passed = zero_passed c.args.from c.loop-i.i c.args.bytes.now g.row.N c.loop-i.bits w.bits_of-bits-in-loop-i.result _ c.loop-i.auto.i c.loop-i.invariant w.bits_of-bits-in-loop-i.ensures in
          rw w.bits-is (all (c.loop-i.i + g.row.N) c.args.bytes.now (length c.args.bytes.now - g.row.N) _ (omega arith) (omega arith) passed)
    ]
