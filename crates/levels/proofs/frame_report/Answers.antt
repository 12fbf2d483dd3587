use Rattle.std.proofs.Common.{rules, arith, ◌≡◌, sym, Err}
use Rattle.levels.proofs.Reports.{some, few, enough, whole_rows, few_clips, reported, unreported}
use Rattle.levels.proofs.frame_report.Goals as goal

pub returns-in_err-stats-clause-frame_reported : goal.returns-in_err-stats-clause-frame_reported
returns-in_err-stats-clause-frame_reported c =
    let p = rw c.in_err-stats.was at c.convert_frame.ensures in
    let r : c.from_residual.result ≡ Err c.in_err-stats.field-0.0 = search rules in
    rw r (unreported _ _ _ _ _ p)

-- the frame is accepted
pub lines-length-requires : goal.lines-length-requires
lines-length-requires c =
    let p = rw c.in_ok-stats.was at c.convert_frame.ensures in
    let q = sym p.answered.decided in
    (some _ _ _ q, few _ _ _ q, enough _ _ _ q _ _ p, whole_rows _ _ _ q _ _ p, c.requires)

pub clips-requires : goal.clips-requires
clips-requires c =
    let p = rw c.in_ok-stats.was at c.convert_frame.ensures in
    let q = sym p.answered.decided in
    (few _ _ _ q, omega (arith, few_clips _ _ _ q _ _ p))

pub returns-clause-frame_reported : goal.returns-clause-frame_reported
returns-clause-frame_reported c =
    let p = rw c.in_ok-stats.was at c.convert_frame.ensures in
    reported _ _ _ (sym p.answered.decided) _ _ p c.lines-length.ensures.printed c.clips.ensures c.lines-length.ensures.length_bound.1

pub returns-clause-length_bound : goal.returns-clause-length_bound
returns-clause-length_bound c =
    let p = rw c.in_ok-stats.was at c.convert_frame.ensures in
    (c.lines-length.ensures.length_bound.0, rw c.clips.ensures (few_clips _ _ _ (sym p.answered.decided) _ _ p))
