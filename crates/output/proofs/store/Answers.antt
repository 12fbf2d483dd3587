use Rattle.std.proofs.Common.{◌≡◌, ◌+◌, ◌∙◌, arith, rules}
use Rattle.output.proofs.Boxes.{rows, one_sample, within}
use Rattle.output.proofs.store.Goals as goal

pub put-requires : goal.put-requires
put-requires g c = omega (arith, within g.P.Place.layout.width c.args.n _ c.loop-k.k c.args.channel c.requires.1 c.loop-k-test.true c.requires.0)

pub loop-k-preserved : goal.loop-k-preserved
loop-k-preserved g c S h =
    let e : c.args.n + (c.loop-k.k + 1) ≡ c.args.n + c.loop-k.k + 1 = omega arith in
    rw e (rows (c.loop-k.invariant S h) (one_sample g.P.Place.layout g.met.P.Place.some S c.requires.0 (search rules ∙ h.is c.loop-k.k c.loop-k-test.true) c.put.ensures))
