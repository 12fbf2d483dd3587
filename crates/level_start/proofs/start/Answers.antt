-- `start`: what the line that came sets, or that none came.
use Rattle.std.proofs.Common.{arith}
use Rattle.std.proofs.lemmas.Result.{IfOk-weaker}
use Rattle.level_start.proofs.Line.{starts, starts_not}
use Rattle.level_start.proofs.start.Goals as goal

pub returns-in-Some-clause-starts : goal.returns-in-Some-clause-starts
returns-in-Some-clause-starts g c =
    IfOk-weaker c.settings.result _ _ (λ _ b. starts _ _ _ _ _ c.in-Some.n (rw c.in-Some.is at c.in_ok-n.ensures.line) b) c.settings.ensures.begun

pub returns-in-None-clause-starts : goal.returns-in-None-clause-starts
returns-in-None-clause-starts g c =
    IfOk-weaker c.refused_settings.result _ _ (λ _ b. starts_not _ _ _ _ _ (omega arith) (rw c.in-None.is at c.in_ok-n.ensures.line) b) c.refused_settings.ensures
