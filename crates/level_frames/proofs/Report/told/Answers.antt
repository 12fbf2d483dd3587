-- `told`: the frame is accepted, so it is not refused.
use Rattle.std.proofs.Common.{◌∙◌, arith, length-take-le}
use Rattle.level_frames.proofs.Accepted.{accepts, added, not_refused}
use Rattle.level_frames.proofs.Report.told.Goals as goal

pub returns-in-Ok-clause-told : goal.returns-in-Ok-clause-told
returns-in-Ok-clause-told c =
    let of = c.args.self.now.of in
    added c.args.self.now.clipped c.in-Ok.r (rw c.in-Ok.is at c.frame_report.ensures.frame_reported)
    (accepts of.conv of.opened _ _ c.requires.one_long (length-take-le _ _ (omega (arith, c.items.ensures.upper_bound)) ∙ c.items.ensures.items))

pub returns-in-Err-clause-told : goal.returns-in-Err-clause-told
returns-in-Err-clause-told c =
    let of = c.args.self.now.of in
    absurd (not_refused c.in-Err.field-0 (rw c.in-Err.is at c.frame_report.ensures.frame_reported)
    (accepts of.conv of.opened _ _ c.requires.one_long (length-take-le _ _ (omega (arith, c.items.ensures.upper_bound)) ∙ c.items.ensures.items)))
