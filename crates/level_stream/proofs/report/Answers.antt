-- `report`: what `start` has said is all, or the lines of the frames are.
use Rattle.std.proofs.lemmas.Result.{IfOk-weaker}
use Rattle.level_stream.proofs.Reporting.{ends_at_once, ends_with_frames}
use Rattle.level_stream.proofs.report.Goals as goal

pub returns-in-Some : goal.returns-in-Some
returns-in-Some g c =
    let starts = rw c.in-Some.is at c.in_ok-conv.ensures.starts in
    let usable = rw c.in-Some.is at c.in_ok-conv.ensures.usable in
    IfOk-weaker c.report_frames.result _ _ (λ _ lines. ends_with_frames c.in-Some.conv _ _ _ _ _ usable.0 starts lines) c.report_frames.ensures

pub returns-in-None : goal.returns-in-None
returns-in-None g c = ends_at_once _ _ _ _ (rw c.in-None.is at c.in_ok-conv.ensures.starts)
