-- `tell`: its lines are what is passed on.
use Rattle.std.proofs.lemmas.Result.{IfOk-weaker}
use Rattle.level_frames.proofs.Printing.{wrote_text}
use Rattle.level_turns.proofs.tell.Goals as goal

pub returns-clause-told : goal.returns-clause-told
returns-clause-told g c =
    IfOk-weaker c.write_first.result _ _ (λ _ w. record { counted = c.told-n.ensures.told.counted; carried = c.told-n.ensures.told.carried }) c.write_first.ensures.wrote

pub returns-clause-wrote : goal.returns-clause-wrote
returns-clause-wrote g c = IfOk-weaker c.write_first.result _ _ (λ _ w. wrote_text _ _ c.told-n.ensures.told.lines w) c.write_first.ensures.wrote
