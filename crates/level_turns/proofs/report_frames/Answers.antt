-- `report_frames`: the lines of the frames, and the end after them.
use Rattle.std.proofs.Common.{◌<◌, arith}
use Rattle.std.proofs.lemmas.Result.{IfOk-weaker}
use Rattle.reference.specs.Frames.{frame_length}
use Rattle.level_frames.specs.Report.{lines_of, text_by}
use Rattle.level_frames.proofs.Printing.{wrote_text}
use Rattle.level_turns.proofs.Ending.{all_printed, too_long}
use Rattle.level_turns.proofs.report_frames.Goals as goal

pub returns-then-came-size : goal.returns-then-came-size
returns-then-came-size g c =
    let few : c.in_ok-came.came.left < frame_length c.args.conv.channels = omega (arith, c.if-came-size.true, c.size.ensures.size) in
    let held = g.W.Write.contents c.turns.new.to in
    let more = g.W.Write.contents c.write_first.new.to in
    IfOk-weaker c.write_first.result _ _
    (λ _ w. all_printed c.args.conv c.in_ok-came.came.frames c.turns.new.report.clipped c.in_ok-came.came.left (g.R.Read.remaining c.args.from.now) (g.R.Read.remaining c.turns.new.from)
    (g.W.Write.contents c.args.to.now) held c.in_ok-came.ensures more few (wrote_text held more c.ending-n.ensures.printed w))
    c.write_first.ensures.wrote

pub returns : goal.returns
returns g c =
    too_long c.args.conv c.in_ok-came.came.frames c.turns.new.report.clipped c.in_ok-came.came.left (g.R.Read.remaining c.args.from.now) (g.R.Read.remaining c.turns.new.from)
    (g.W.Write.contents c.args.to.now) (g.W.Write.contents c.turns.new.to) c.in_ok-came.ensures (λ input. text_by c.args.conv input (lines_of c.args.conv input))
    (λ l. omega (arith, l, c.if-came-size.false, c.size.ensures.size))
