use Rattle.std.proofs.lemmas.Result.{err_from_is_err_and}
use Rattle.dsf_frames.proofs.Asked.{args, given, turned_down}
use Rattle.dsf_frames.proofs.frames.take.Goals as goal

pub returns-in_err-asked : goal.returns-in_err-asked
returns-in_err-asked c =
    let p = err_from_is_err_and c.from_residual.result c.from_residual.ensures.1 in
    rw (p.1, p.2) (turned_down _ _ c.in_err-asked.ensures)

pub frame_from_window-requires : goal.frame_from_window-requires
frame_from_window-requires c = args _ _ _ _ _ _ c.in_ok-asked.ensures c.requires.0 c.requires.1

pub returns : goal.returns
returns c = given _ c.in_ok-asked.ensures c.frame_from_window.ensures
