use Rattle.std.proofs.Common.{rules, arith, refl, ◌≡◌}
use Rattle.filters.specs.inner.Biases.{rounded}
use Rattle.numbers.proofs.Lists.{written_more}
use Rattle.band.proofs.round.Goals as goal

pub loop-l-preserved : goal.loop-l-preserved
unfolding rounded
loop-l-preserved g c =
    let u = c.loop-l.invariant.same in
    written_more c.loop-l.invariant refl (λ j m. omega arith) (omega arith) (search rules)

pub returns : goal.returns
returns g c =
    let e : c.loop-l.l ≡ g.row.L = omega arith in
    rw e at c.loop-l.invariant
