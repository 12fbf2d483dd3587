use Rattle.std.proofs.Common.{[], false}
use Rattle.wav.proofs.Converting.{converted}
use Rattle.wav.proofs.uncounted.Goals as goal

pub returns : goal.returns
returns c =
    let a = c.args in
    converted a.conv _ false a.out.now [] c.in_ok-begun.ensures.decided _ c.in_ok-begun.ensures.headed _ _ c.convert.result c.convert.ensures
