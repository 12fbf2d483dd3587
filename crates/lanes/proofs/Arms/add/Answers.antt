use Rattle.std.proofs.Common.{arith, ◌≡◌, length}
use Rattle.lanes.proofs.Places.{gained_then}
use Rattle.lanes.proofs.Arms.add.Goals as goal

pub add_block-requires-clause-by_index : goal.add_block-requires-clause-by_index
add_block-requires-clause-by_index c = λ k m. rw (c.loop-b.invariant.kept k (λ j n. omega arith)) (c.requires.small.size k)

pub loop-b-preserved : goal.loop-b-preserved
loop-b-preserved c = gained_then _ c.loop-b.invariant c.add_block.ensures (omega arith)

pub add_block-requires-in-loop-k-clause-by_index : goal.add_block-requires-in-loop-k-clause-by_index
add_block-requires-in-loop-k-clause-by_index c = λ k m. rw (c.loop-k.invariant.kept k (λ j n. omega arith)) (c.requires.small.size k)

pub loop-k-preserved : goal.loop-k-preserved
loop-k-preserved c = gained_then _ c.loop-k.invariant c.add_block-in-loop-k.ensures (omega arith)

pub returns : goal.returns
returns c =
    let e : c.loop-k.k ≡ length c.args.y.now = omega arith in
    rw e at c.loop-k.invariant
