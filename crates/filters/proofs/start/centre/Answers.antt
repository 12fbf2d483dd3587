use Rattle.std.proofs.Common.{rules, arith, refl}
use Rattle.lanes.specs.inner.Lanes.{copied}
use Rattle.numbers.proofs.Lists.{written_more}
use Rattle.filters.proofs.start.centre.Goals as goal

pub loop-k-preserved : goal.loop-k-preserved
unfolding copied
loop-k-preserved c =
    let u = c.loop-k.invariant.same in
    written_more c.loop-k.invariant refl (λ i m. omega arith) (omega arith) (search rules)
