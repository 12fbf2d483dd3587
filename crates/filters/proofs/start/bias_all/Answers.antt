use Rattle.std.proofs.Common.{rules, arith, ◌≡◌, pos}
use Rattle.filters.specs.inner.Biases.{biased}
use Rattle.filters.proofs.Places.{copied_more}
use Rattle.filters.proofs.start.bias_all.Goals as goal

pub loop-k-preserved : goal.loop-k-preserved
unfolding biased
loop-k-preserved c =
    let e : pos c.bias.result ≡ biased c.args.x.now c.loop-k.k = search rules in
    copied_more c.loop-k.invariant (omega arith) e c.bias.ensures.1 (omega arith)
