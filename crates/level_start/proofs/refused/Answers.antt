-- `refused`: its line is what is passed on.
use Rattle.std.proofs.lemmas.Result.{IfOk-weaker}
use Rattle.level_frames.proofs.Printing.{wrote_text}
use Rattle.level_start.proofs.refused.Goals as goal

pub returns : goal.returns
returns g c = record { wrote = IfOk-weaker c.write_first.result _ _ (λ _ w. wrote_text _ _ c.refused_line-n.ensures.printed w) c.write_first.ensures.wrote }
