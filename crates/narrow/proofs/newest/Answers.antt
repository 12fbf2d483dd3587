use Rattle.std.proofs.Common.{arith, ◌+◌, ◌-◌, ◌*◌}
use Rattle.reference.specs.Stages.{M, w}
use Rattle.routes.proofs.Arrays.{part_length}
use Rattle.routes.proofs.Filters.{fir1_gives}
use Rattle.stages.proofs.Smalls.{small_put, front_small, joined_held}
use Rattle.narrow.proofs.newest.Goals as goal

pub returns-clause-small_3 : goal.returns-clause-small_3
returns-clause-small_3 c = small_put _ _ c.requires.small_2 (front_small _ c.requires.low_pass c.requires.small c.fir1.ensures.filled)

pub returns-clause-held : goal.returns-clause-held
unfolding w
returns-clause-held c =
    λ β i l history old.
    let f = c.requires.low_pass in
    let h = c.args.h.now in
    let k = c.args.k in
    let kept = c.args.kept.now in
    let part = part_length (184 - k) 184 kept (omega arith) in
    let new = fir1_gives history (2 * M h + k) (omega arith) h (i + 184 - k) (omega arith) c.fir1.ensures.filled (omega (arith, part)) in
    joined_held (184 - k) 184 kept c.fir1.new.y (omega arith) (omega arith) c.fir1.auto.y old new (omega arith) (omega (arith, part))
