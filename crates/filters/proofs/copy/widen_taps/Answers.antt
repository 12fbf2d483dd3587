use Rattle.std.proofs.Common.{rules, arith, pos, refl, ext_get_or}
use Rattle.numbers.proofs.Lists.{written_more}
use Rattle.filters.proofs.copy.widen_taps.Goals as goal

pub loop-k-preserved : goal.loop-k-preserved
loop-k-preserved c =
    let u = c.loop-k.invariant.same in
    written_more c.loop-k.invariant refl (λ i m. omega arith) (omega arith) (search rules)

pub returns : goal.returns
returns c =
    let l = c.loop-k in
    let u = l.invariant.same in
    ext_get_or (pos 0) _ _ (omega arith) (λ k m. l.invariant.done k (omega arith))
