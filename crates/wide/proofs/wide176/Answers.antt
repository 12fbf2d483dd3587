use Rattle.std.proofs.Common.{arith, ◌-◌, ◌*◌}
use Rattle.std.proofs.lemmas.Grind.{common_steps}
use Rattle.numbers.proofs.Lists.{held_some}
use Rattle.reference.specs.Taps.{S1_WIDE, F80}
use Rattle.reference.specs.Stages.{u, y_wide}
use Rattle.reference.proofs.Locality.{F80_last}
use Rattle.routes.proofs.Arrays.{held_at}
use Rattle.routes.proofs.Filters.{halved_gives, halved_F80}
use Rattle.stages.proofs.Smalls.{small_front}
use Rattle.wide.proofs.wide176.Goals as goal

pub halved-requires-clause-halved_filter : goal.halved-requires-clause-halved_filter
halved-requires-clause-halved_filter c = halved_F80 c.requires.h_value

pub halved-requires-clause-h_in_bounds : goal.halved-requires-clause-h_in_bounds
halved-requires-clause-h_in_bounds c =
    let few = (halved_F80 c.requires.h_value).few in
    grind (arith, common_steps, few)

pub halved-requires-clause-small : goal.halved-requires-clause-small
halved-requires-clause-small c = small_front 400 c.bring_u.new.self.x_small

pub returns-clause-held : goal.returns-clause-held
unfolding y_wide
returns-clause-held c =
    λ β n l bytes history.
    let whole = c.bring_u.ensures.held β (2 * n - 116) (omega arith) (held_at _ (omega arith) bytes) history in (
      held_some 84 (omega arith) (halved_gives whole 400 (omega arith) F80 n (omega (arith, F80_last)) (c.halved.ensures.filled F80 c.requires.h_value) (omega (arith, F80_last))),
      held_at _ (omega arith) (c.move_on.ensures.held (u S1_WIDE β) _ whole),
    )
