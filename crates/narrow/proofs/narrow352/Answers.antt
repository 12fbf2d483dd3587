use Rattle.std.proofs.Common.{arith, ◌+◌, ◌-◌, ◌/◌}
use Rattle.reference.specs.Stages.{M, v}
use Rattle.routes.proofs.Arrays.{shifted, held_at}
use Rattle.narrow.proofs.narrow352.Goals as goal

pub returns : goal.returns
returns c =
    λ β n l even bytes history old.
    let h = c.args.h.now in
    let k = c.args.k in
    let few = c.requires.low_pass.few in
    let whole = c.bring_v.ensures.held β (n / 2 + 176 - k - M h) (omega arith) (held_at _ (omega arith) bytes) history in
    let kept = c.newest.ensures.held β (n / 2 - 8) (omega arith) (held_at _ (omega arith) whole) (rw c.bring_v.ensures.kept old) in (
      c.between.ensures.held h β n (omega arith) even kept,
      held_at _ (omega arith) (c.move_on.ensures.held (v β) _ whole),
      held_at _ (omega arith) (shifted {a = n / 2 - 8} {n = 184} 168 16 (omega arith) c.shift.ensures.by_index (rw c.move_on.ensures.others.1 kept)),
    )
