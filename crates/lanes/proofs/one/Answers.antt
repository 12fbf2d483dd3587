use Rattle.std.proofs.Common.{rules, arith, refl}
use Rattle.numbers.proofs.Lists.{written_more}
use Rattle.lanes.proofs.one.Goals as goal

pub loop-l-preserved : goal.loop-l-preserved
loop-l-preserved g c =
    let e = c.loop-l.invariant.1.kept c.loop-l.l (λ i m. omega arith) in
    (search rules, written_more c.loop-l.invariant.1 refl (λ i m. omega arith) (omega arith) (search rules))
