use Rattle.std.proofs.Common.{rules, arith, refl, ◌+◌}
use Rattle.filters.specs.inner.Biases.{biased}
use Rattle.numbers.proofs.Lists.{written_more}
use Rattle.band.proofs.centre.Goals as goal

pub halved-requires : goal.halved-requires
halved-requires g c =
    let b = c.requires.by_index (c.args.i + c.loop-l.l) (omega arith) in
    search rules

pub loop-l-preserved : goal.loop-l-preserved
unfolding biased
loop-l-preserved g c =
    (search rules, written_more c.loop-l.invariant.1 refl (λ j m. omega arith) (omega arith) (search rules))

pub returns : goal.returns
returns g c = record { is = λ l m. c.loop-l.invariant.1.done l (omega arith) }
