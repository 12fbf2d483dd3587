-- `fill`: a read goes on after the bytes that have come.
use Rattle.std.proofs.Common.{arith}
use Rattle.level_input.proofs.Known.{read_past}
use Rattle.level_input.proofs.fill.Goals as goal

pub loop-n-preserved : goal.loop-n-preserved
loop-n-preserved g c = (
  omega (arith, c.in_ok-more.ensures.fits),
  read_past _ _ _ c.loop-n.bytes _ c.loop-n.n _ c.in_ok-more.ensures.kept c.loop-n.invariant.1 c.in_ok-more.ensures.bytes.0,
)
