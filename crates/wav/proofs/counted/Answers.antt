use Rattle.std.proofs.Common.{true}
use Rattle.wav.proofs.Converting.{converted}
use Rattle.wav.proofs.counted.Goals as goal

pub returns : goal.returns
returns c =
    let a = c.args in
    converted a.conv _ true a.out.now a.counts.now c.in_ok-begun.ensures.decided _ c.in_ok-begun.ensures.headed _ _ c.convert.result c.convert.ensures
