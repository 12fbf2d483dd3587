use Rattle.std.proofs.Common.{rules, arith, ◌≡◌, ◌+◌, ◌*◌, ◌∙◌, pos}
use Rattle.filters.specs.inner.Biases.{biased}
use Rattle.filters.proofs.Places.{copied_more, second_biased}
use Rattle.filters.proofs.start.bias_second.Goals as goal

pub loop-k-preserved : goal.loop-k-preserved
unfolding biased
loop-k-preserved c =
    let from = c.args.from in
    let k = c.loop-k.k in
    let e : pos c.bias.result ≡ biased c.args.x.now (2 * k + from) = search rules in
    copied_more c.loop-k.invariant (omega arith) (e ∙ second_biased from c.args.x.now k (omega arith)) c.bias.ensures.1 (omega arith)
