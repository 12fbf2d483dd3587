use Rattle.std.proofs.Common.{◌≡◌, length, arith, refl}
use Rattle.numbers.proofs.Lists.{written_none, written_more}
use Rattle.dsf_write.proofs.laid.gather.Goals as goal

pub loop-k-init : goal.loop-k-init
loop-k-init c = written_none

pub loop-k-preserved : goal.loop-k-preserved
loop-k-preserved c =
    let u = c.loop-k.invariant.same in
    written_more c.loop-k.invariant refl (λ i m. omega arith) (omega arith) refl

pub returns : goal.returns
returns c = let e : c.loop-k.k ≡ length c.args.out.now = omega arith in rw e at c.loop-k.invariant
