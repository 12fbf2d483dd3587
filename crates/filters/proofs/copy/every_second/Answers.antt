use Rattle.std.proofs.Common.{rules, arith, refl}
use Rattle.numbers.proofs.Lists.{written_more}
use Rattle.filters.proofs.copy.every_second.Goals as goal

pub loop-k-preserved : goal.loop-k-preserved
loop-k-preserved c =
    let u = c.loop-k.invariant.same in
    written_more c.loop-k.invariant refl (λ i m. omega arith) (omega arith) (search rules)
