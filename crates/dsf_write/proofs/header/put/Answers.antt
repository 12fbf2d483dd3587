use Rattle.std.proofs.Common.{◌≡◌, ◌+◌, ◌-◌, length, arith}
use Rattle.dsf_write.proofs.Writing.{put_piece}
use Rattle.dsf_write.proofs.header.put.Goals as goal

pub returns : goal.returns
returns c =
    let a = c.args in
    let size : length a.bytes.now ≡ a.at + length a.bytes.now - a.at = omega arith in
    put_piece a.at _ a.out.now _ a.bytes.now (omega (arith, c.requires)) (omega arith) c.copy_from_slice.ensures.after
