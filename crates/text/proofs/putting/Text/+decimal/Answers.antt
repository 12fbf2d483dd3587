-- `decimal`: the digits before the last are those of n / 10.
use Rattle.std.proofs.Common.{◌≡◌, ◌%◌, arith, ap, length, length-append}
use Rattle.text.proofs.Numerals.{one_digit, last_digit}
use Rattle.text.proofs.Writing.{both}
use Rattle.text.proofs.putting.Text.+decimal.Goals as goal
use Rattle.text.proofs.putting.Text.+decimal.Goals.{then-n-ge10, else-n-ge10}

pub decimal-requires : goal.decimal-requires
decimal-requires t c = (omega arith, omega (arith, simp length-append at (ap length (last_digit c.args.n c.if-n-ge10.true))))

pub put-requires : goal.put-requires
put-requires t c =
    elim c.if-n-ge10.branch [
      | then-n-ge10 w ↦ rw w.self-is (let l = w.decimal.ensures in omega (arith, simp length-append at (ap length (last_digit c.args.n w.if-n-ge10.true))))
      | else-n-ge10 w ↦ rw w.self-is (omega (arith, ap length (one_digit c.args.n w.if-n-ge10.false)))
    ]

pub returns : goal.returns
returns t c =
    elim c.if-n-ge10.branch [
      | then-n-ge10 w ↦ rw (last_digit c.args.n w.if-n-ge10.true) (both w.decimal.ensures (rw w.self-is at c.put.ensures))
      | else-n-ge10 w ↦ (let e : c.args.n % 10 ≡ c.args.n = omega arith in rw (one_digit c.args.n w.if-n-ge10.false) (rw (w.self-is, e) at c.put.ensures))
    ]
