use Rattle.std.proofs.Common.{arith, ◌≡◌, length}
use Rattle.band.proofs.places.Goals as goal
use Rattle.band.proofs.Bands.{whole_part, done_then}

pub block-requires-clause-whole : goal.block-requires-clause-whole
block-requires-clause-whole g c = whole_part _ _ _ _ _ c.requires.whole (λ k m. c.loop-b.invariant.kept k (λ i n. omega arith)) (omega arith)

pub loop-b-preserved : goal.loop-b-preserved
loop-b-preserved g c = done_then g.row.Q _ _ c.loop-b.invariant c.block.ensures (omega arith)

pub block-requires-in-loop-k-clause-whole : goal.block-requires-in-loop-k-clause-whole
block-requires-in-loop-k-clause-whole g c = whole_part _ _ _ _ _ c.requires.whole (λ k m. c.loop-k.invariant.kept k (λ i n. omega arith)) (omega arith)

pub loop-k-preserved : goal.loop-k-preserved
loop-k-preserved g c = done_then g.row.Q _ _ c.loop-k.invariant c.block-in-loop-k.ensures (omega arith)

pub returns : goal.returns
returns g c =
    let e : c.loop-k.k ≡ length c.args.y.now = omega arith in
    rw e at c.loop-k.invariant
