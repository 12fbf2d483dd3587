use Rattle.std.proofs.Common.{sym, arith}
use Rattle.dsf.specs.Dsf.{frames_in}
use Rattle.dsf_frames.proofs.Asked.{window_is}
use Rattle.dsf_frames.proofs.frames.window.Goals as goal

pub returns : goal.returns
unfolding frames_in
returns c = sym (window_is c.groups.result _ _ _ (omega arith) (omega arith) c.groups.ensures.0 c.groups.ensures.1)
