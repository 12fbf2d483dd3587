-- `signed`: z's text by the size.
use Rattle.std.proofs.Common.{arith, ap, length}
use Rattle.text.proofs.Signs.{minus_text, plain_text}
use Rattle.text.proofs.Writing.{both}
use Rattle.text.proofs.putting.Text.signed.Goals as goal
use Rattle.text.proofs.putting.Text.signed.Goals.{then-z-lt0, else-z-lt0}

pub put-requires : goal.put-requires
put-requires c = omega (arith, ap length (minus_text c.args.z c.ranges.z c.if-z-lt0.true))

pub decimal-requires : goal.decimal-requires
decimal-requires c =
    elim c.if-z-lt0.branch [
      | then-z-lt0 w ↦ rw (w.self-is, c.unsigned_abs.ensures.value) (let p = w.put.ensures in omega (arith, ap length (minus_text c.args.z c.ranges.z w.if-z-lt0.true)))
      | else-z-lt0 w ↦ rw (w.self-is, c.unsigned_abs.ensures.value) (omega (arith, ap length (plain_text c.args.z c.ranges.z w.if-z-lt0.false)))
    ]

pub returns : goal.returns
returns c =
    elim c.if-z-lt0.branch [
      | then-z-lt0 w ↦ rw (minus_text c.args.z c.ranges.z w.if-z-lt0.true) (both w.put.ensures (rw (w.self-is, c.unsigned_abs.ensures.value) at c.decimal.ensures))
      | else-z-lt0 w ↦ rw (plain_text c.args.z c.ranges.z w.if-z-lt0.false) (rw (w.self-is, c.unsigned_abs.ensures.value) at c.decimal.ensures)
    ]
