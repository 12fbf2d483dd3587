use Rattle.std.proofs.Common.{rules}
use Rattle.text.proofs.Writing.{both, ended}
use Rattle.wave_headers.proofs.parts.put_three.Goals as goal

pub returns : goal.returns
returns c =
    let head = rw c.data_head.ensures at c.put-3.ensures in
    let all = both c.put.ensures (both c.put-2.ensures head) in
    (ended (search rules) all.printed).written
