use Rattle.std.proofs.Common.{rules, arith, refl}
use Rattle.filters.specs.inner.Biases.{rounded}
use Rattle.numbers.proofs.Lists.{written_more}
use Rattle.filters.proofs.round.all.Goals as goal

pub loop-place-preserved : goal.loop-place-preserved
unfolding rounded
loop-place-preserved g c =
    let u = c.loop-place.invariant.same in
    let e = c.loop-place.invariant.kept c.loop-place.place-index (λ i m. omega arith) in
    written_more c.loop-place.invariant refl (λ i m. omega arith) (omega arith) (search rules)
