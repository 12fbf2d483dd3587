-- `digits`: those of n / 10, and one more.
use Rattle.std.proofs.Common.{◌≡◌, ◌+◌, arith, ap, length, length-append}
use Rattle.text.specs.Text.{decimal}
use Rattle.text.proofs.Numerals.{places, one_digit, last_digit}
use Rattle.columns.proofs.+digits.Goals as goal

pub returns-then-n-lt10 : goal.returns-then-n-lt10
returns-then-n-lt10 t c = (omega (arith, ap length (one_digit c.args.n c.if-n-lt10.true)), omega arith)

pub returns-else-n-lt10 : goal.returns-else-n-lt10
returns-else-n-lt10 t c =
    let e : c.digits.result + 1 ≡ length (decimal c.args.n) = omega (arith, simp length-append at (ap length (last_digit c.args.n c.if-n-lt10.false))) in
    (e, omega (arith, places 19 c.args.n (omega (arith, c.ranges.n))))
