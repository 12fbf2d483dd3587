-- `split_once`: what is in front of the first one, and after it.
use Rattle.std.proofs.Common.{arith}
use Rattle.text.proofs.Cuts.{past_none, past_more, past_all, cut_at}
use Rattle.text.proofs.cutting.split_once.Goals as goal

pub loop-k-init : goal.loop-k-init
loop-k-init c = past_none _ _

pub loop-k-preserved : goal.loop-k-preserved
loop-k-preserved c = past_more _ c.loop-k.invariant c.if-text-k.false

pub returns-then-text-k : goal.returns-then-text-k
returns-then-text-k c = cut_at _ c.loop-k.invariant c.loop-k-test.true c.if-text-k.true

pub returns : goal.returns
returns c = past_all _ c.loop-k.invariant (omega arith)
