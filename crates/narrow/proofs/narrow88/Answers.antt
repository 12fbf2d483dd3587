use Rattle.std.proofs.Common.{arith, ◌+◌, ◌-◌, ◌*◌, length}
use Rattle.numbers.proofs.Lists.{held_some}
use Rattle.reference.specs.Stages.{M, v, w, y_narrow}
use Rattle.routes.proofs.Arrays.{held_at}
use Rattle.routes.proofs.Filters.{halved_gives, halves_length}
use Rattle.narrow.proofs.narrow88.Goals as goal

pub returns-clause-held : goal.returns-clause-held
unfolding y_narrow w
returns-clause-held c =
    λ F β n low e l bytes history.
    let m = 2 * (length c.args.h.now - 1) in
    let taps = halves_length F e in
    let few = low.few in
    let whole = c.bring_v.ensures.held β (2 * n - M F) (omega (arith, taps)) (held_at _ (omega (arith, taps)) bytes) (held_some m (omega (arith, taps)) history) in (
      held_some 84 (omega arith) (halved_gives whole (m + 168) (omega arith) F n (omega arith) (c.halved.ensures.filled F e) (omega (arith, taps))),
      held_at _ (omega arith) (held_some (2 * M F) (omega (arith, taps)) (c.move_on.ensures.held (v β) _ whole)),
    )
