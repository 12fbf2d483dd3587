use Rattle.std.proofs.Common.{◌≡◌, length, arith, refl, mul-le-mul_right}
use Rattle.numbers.proofs.Lists.{written_none}
use Rattle.dsf_columns.proofs.Strides.{strided_more}
use Rattle.dsf_columns.proofs.columns.spread.Goals as goal

pub loop-k-init : goal.loop-k-init
loop-k-init c = written_none

pub loop-k-preserved : goal.loop-k-preserved
loop-k-preserved c = strided_more c.args.at c.args.stride c.requires.0 c.loop-k.invariant (omega (arith, mul-le-mul_right c.args.stride c.loop-k-test.true, c.requires)) refl

pub returns : goal.returns
returns c = let e : c.loop-k.k ≡ length c.args.src.now = omega arith in rw e at c.loop-k.invariant
