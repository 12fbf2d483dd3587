-- `number`: digit by digit.
use Rattle.std.proofs.Common.{arith}
use Rattle.text.proofs.Digits.{empty, longer, next, ends}
use Rattle.text.proofs.reading.number.Goals as goal

pub returns-in_err-first : goal.returns-in_err-first
returns-in_err-first c = rw c.from_residual.ensures (empty c.args.text.now c.in_err-first.ensures.cases)

pub returns-in_err-n : goal.returns-in_err-n
returns-in_err-n c = rw (c.from_residual-in_err-n.ensures, c.in_ok-first.ensures.cases.0) (longer (omega arith) c.in_err-n.ensures c.in_ok-first.rest.now)

pub returns-in_err-n-2 : goal.returns-in_err-n-2
returns-in_err-n-2 c =
    let is = c.in_ok-first.ensures.cases.0 in
    rw c.from_residual-in_err-n-2.ensures
    (ends is c.loop-byte.byte-index c.loop-byte-test.true (next is c.loop-byte.byte-index c.loop-byte-test.true c.loop-byte.invariant c.in_err-n-2.ensures))

pub loop-byte-preserved : goal.loop-byte-preserved
loop-byte-preserved c = next c.in_ok-first.ensures.cases.0 c.loop-byte.byte-index c.loop-byte-test.true c.loop-byte.invariant c.in_ok-n-2.ensures
