-- `settings`: another first line.
use Rattle.std.proofs.lemmas.Result.{IfOk-weaker}
use Rattle.level_start.proofs.Line.{begun_not}
use Rattle.level_start.proofs.settings.Goals as goal

pub returns-in-None-clause-begun : goal.returns-in-None-clause-begun
returns-in-None-clause-begun g c =
    IfOk-weaker c.refused_settings.result _ _ (λ _ b. begun_not _ _ _ (rw c.in-None.is at c.first_line-first.ensures) b) c.refused_settings.ensures
