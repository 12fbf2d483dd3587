use Rattle.std.proofs.Common.{arith, ap, length, ◌-◌}
use Rattle.std.proofs.lemmas.Grind.{common_steps}
use Rattle.numbers.proofs.Lists.{held_some}
use Rattle.reference.specs.Taps.{S1_WIDE, F40}
use Rattle.reference.specs.Stages.{u, y_wide}
use Rattle.reference.proofs.Locality.{F40_last}
use Rattle.routes.proofs.Arrays.{held_at}
use Rattle.routes.proofs.Filters.{fir1_gives, lent_F40}
use Rattle.stages.proofs.Smalls.{small_front, front_fit, wider}
use Rattle.wide.proofs.wide352.Goals as goal

pub fir1-requires-clause-h_nonzero : goal.fir1-requires-clause-h_nonzero
fir1-requires-clause-h_nonzero c =
    let long = ap length c.requires.h_value in
    grind (arith, common_steps, long, F40_last)

pub fir1-requires-clause-filter : goal.fir1-requires-clause-filter
fir1-requires-clause-filter c = (lent_F40 c.requires.h_value).keeps

pub fir1-requires-clause-small : goal.fir1-requires-clause-small
fir1-requires-clause-small c = wider (small_front 456 c.bring_u.new.self.x_small) (omega arith)

pub fir1-requires-clause-fit : goal.fir1-requires-clause-fit
fir1-requires-clause-fit c = front_fit 456 _ (lent_F40 c.requires.h_value) c.bring_u.new.self.x_small

pub returns-clause-held : goal.returns-clause-held
unfolding y_wide
returns-clause-held c =
    λ β n l bytes history.
    let whole = c.bring_u.ensures.held β (n - 60) (omega arith) (held_at _ (omega arith) bytes) history in (
      held_some 336 (omega arith) (fir1_gives whole 456 (omega arith) F40 n (omega (arith, F40_last)) (rw c.requires.h_value at c.fir1.ensures.filled) (omega (arith, F40_last))),
      held_at _ (omega arith) (c.move_on.ensures.held (u S1_WIDE β) _ whole),
    )
