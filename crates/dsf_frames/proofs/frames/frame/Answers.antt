use Rattle.std.proofs.Common.{arith}
use Rattle.dsf.proofs.Alike.{rest_is}
use Rattle.dsf_frames.proofs.Asked.{whole_places, whole_frame, framed_as}
use Rattle.dsf_frames.proofs.frames.frame.Goals as goal

pub returns : goal.returns
returns c =
    let a = c.args in
    let rest = rest_is a.file.now 92 c.min.result (omega (arith, c.min.ensures)) in
    framed_as (whole_places a.file.now a.frame _) (whole_frame a.file.now a.frame) (rw rest at c.window_frame.ensures)
