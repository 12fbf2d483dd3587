use Rattle.std.proofs.Common.{arith, rules, length-take-le}
use Rattle.workspace.proofs.Bound.{halves_bound}
use Rattle.workspace.proofs.halves.Goals as goal

pub returns : goal.returns
returns c =
    let f = c.args.f.now in
    halves_bound f _ c.div_ceil-even.result (omega arith) c.every_second.ensures (length-take-le _ _ (search rules)) c.every_second-2.ensures (search rules)
