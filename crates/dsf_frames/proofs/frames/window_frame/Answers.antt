use Rattle.std.proofs.Common.{sym}
use Rattle.std.proofs.lemmas.Result.{err_from_is_err_and}
use Rattle.dsf_frames.proofs.Asked.{head_few, window_taken, window_refused}
use Rattle.dsf_frames.proofs.frames.window_frame.Goals as goal

pub returns-in_err-header : goal.returns-in_err-header
returns-in_err-header c =
    let p = err_from_is_err_and c.from_residual.result c.from_residual.ensures.1 in
    rw (p.1, p.2) (window_refused _ _ _ _ _ _ c.in_err-header.ensures.decided)

pub take-requires : goal.take-requires
take-requires c = head_few _ _ _ c.in_ok-header.ensures.header (sym c.in_ok-header.ensures.decided)

pub returns : goal.returns
returns c = window_taken _ _ _ c.in_ok-header.ensures.header _ _ _ (sym c.in_ok-header.ensures.decided) c.take.ensures
