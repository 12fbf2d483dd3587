use Rattle.std.proofs.Common.{◌≡◌, ◌-◌, arith}
use Rattle.numbers.proofs.Lists.{written_none}
use Rattle.tracks_put.proofs.Pieces.{written_next, filled}
use Rattle.tracks_put.proofs.fill.Goals as goal

pub loop-j-init : goal.loop-j-init
loop-j-init c =
    let z : c.args.at - c.args.at ≡ 0 = omega arith in
    rw z written_none

pub loop-j-preserved : goal.loop-j-preserved
loop-j-preserved c =
    let l = c.loop-j in
    written_next (omega arith) l.invariant (omega (arith, l.invariant.same))

pub returns : goal.returns
returns c =
    let l = c.loop-j in
    filled c.args.at c.args.out.now l.out (l.j - c.args.at) (omega (arith, l.invariant.same)) l.invariant
