-- `opened`: the settings' converter, or their refusal.
use Rattle.level_start.proofs.Opening.{usable, leads, says_nothing, leads_nowhere, says_refused}
use Rattle.level_start.proofs.opened.Goals as goal

pub returns-in-Ok-clause-usable : goal.returns-in-Ok-clause-usable
returns-in-Ok-clause-usable g c = usable c.args.s c.in-Ok.conv c.requires (rw c.in-Ok.is at c.open.ensures)

pub returns-in-Ok-clause-leads : goal.returns-in-Ok-clause-leads
returns-in-Ok-clause-leads g c = leads c.args.s c.in-Ok.conv (rw c.in-Ok.is at c.open.ensures)

pub returns-in-Ok-clause-wrote : goal.returns-in-Ok-clause-wrote
returns-in-Ok-clause-wrote g c = says_nothing c.args.s c.in-Ok.conv _ (rw c.in-Ok.is at c.open.ensures)

pub returns-in_ok-refused-in-Err-clause-leads : goal.returns-in_ok-refused-in-Err-clause-leads
returns-in_ok-refused-in-Err-clause-leads g c = leads_nowhere c.args.s c.in-Err.e (rw c.in-Err.is at c.open.ensures)

pub returns-in_ok-refused-in-Err-clause-wrote : goal.returns-in_ok-refused-in-Err-clause-wrote
returns-in_ok-refused-in-Err-clause-wrote g c =
    says_refused c.args.s c.in-Err.e c.number.result _ _ (rw c.in-Err.is at c.open.ensures) c.number.ensures c.in_ok-refused-in-Err.ensures.wrote
