use Rattle.std.proofs.Common.{rules, arith, ◌≡◌, ◌+◌, ◌*◌, length-set}
use Rattle.numbers.proofs.Lists.{held_more, held_some}
use Rattle.stages.proofs.Arrays.{interleaved_even, interleaved_odd}
use Rattle.stages.proofs.interleave.Goals as goal

pub loop-k-preserved : goal.loop-k-preserved
loop-k-preserved c =
    let k = c.loop-k.k in
    let n : 2 * (k + 1) ≡ 2 * k + 1 + 1 = omega arith in
    let a = interleaved_even c.args.even.now c.args.odd.now k in
    let b = interleaved_odd c.args.even.now c.args.odd.now k in
    rw n (held_more (held_more c.loop-k.invariant (omega arith) (search (rules, a))) (simp length-set (omega arith)) (search (rules, b)))

pub returns : goal.returns
returns c = held_some _ (omega arith) c.loop-k.invariant
