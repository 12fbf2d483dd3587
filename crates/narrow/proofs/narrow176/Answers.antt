use Rattle.std.proofs.Common.{arith, ◌+◌, ◌-◌, ◌*◌}
use Rattle.numbers.proofs.Lists.{held_some}
use Rattle.reference.specs.Stages.{M, v, w, y_narrow}
use Rattle.routes.proofs.Arrays.{held_at}
use Rattle.routes.proofs.Filters.{fir1_gives}
use Rattle.narrow.proofs.narrow176.Goals as goal

pub returns-clause-held : goal.returns-clause-held
unfolding y_narrow w
returns-clause-held c =
    λ β n l bytes history.
    let h = c.args.h.now in
    let few = c.requires.low_pass.few in
    let whole = c.bring_v.ensures.held β (n - M h) (omega arith) (held_at _ (omega arith) bytes) history in (
      held_some 168 (omega arith) (fir1_gives whole (2 * M h + 168) (omega arith) h n (omega arith) c.fir1.ensures.filled (omega arith)),
      held_at _ (omega arith) (c.move_on.ensures.held (v β) _ whole),
    )
