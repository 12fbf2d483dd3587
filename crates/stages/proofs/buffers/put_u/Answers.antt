use Rattle.std.proofs.Common.{arith, ◌+◌, ◌-◌}
use Rattle.numbers.proofs.Lists.{held_some}
use Rattle.routes.proofs.Arrays.{part_length}
use Rattle.stages.proofs.Arrays.{wide_held, wide_small}
use Rattle.stages.proofs.Smalls.{small_put, joined_held}
use Rattle.stages.proofs.buffers.put_u.Goals as goal

pub returns-clause-small_2 : goal.returns-clause-small_2
returns-clause-small_2 c =
    small_put _ _ c.requires.small (wide_small c.args.bytes.now c.requires.byte_tables (λ i. (c.type_inv.bytes i).fits) (omega arith) c.first_stage.ensures (omega (arith, c.first_stage.auto.out)))

pub returns-clause-held : goal.returns-clause-held
returns-clause-held c =
    λ β i low bytes history.
    let m = c.args.m in
    let e = m + c.args.n in
    let part = part_length m e c.args.x.now (omega arith) in
    let fresh = wide_held c.args.bytes.now c.requires.byte_tables (λ j. (c.type_inv.bytes j).fits)
    (omega arith) c.first_stage.ensures β (i + m - 6) (i + m) (omega arith) (held_some _ (omega arith) bytes) in
    joined_held m e c.args.x.now c.first_stage.new.out (omega arith) (omega arith) c.first_stage.auto.out history fresh (omega arith) (omega (arith, part))
