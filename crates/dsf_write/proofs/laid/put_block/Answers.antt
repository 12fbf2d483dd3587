use Rattle.std.proofs.Common.{◌+◌, ◌*◌, ◌-◌, [], arith}
use Rattle.dsf_write.proofs.Writing.{in_frames, start_small, block_written, piece_long, gathered, zeroed}
use Rattle.dsf_write.proofs.laid.put_block.Goals as goal

pub overflow_mul-from : goal.overflow_mul-from
overflow_mul-from c = omega (arith, start_small c.requires.1, c.requires.1.lent)

pub overflow_add-from : goal.overflow_add-from
overflow_add-from c = omega (arith, in_frames c.requires.1 0 (omega arith), c.requires.1.room)

pub gather-requires : goal.gather-requires
gather-requires c =
    let at = c.args.block * 4096 in
    let live = c.min-live.result in
    let size = piece_long at live (at + live - at) c.args.out.now [] (omega (arith, c.requires.1.lent)) (omega arith) in
    (rw size (in_frames c.requires.1 live (omega arith)), c.requires.1.room)

pub returns : goal.returns
returns c =
    let at = c.args.block * 4096 in
    let live = c.min-live.result in
    let data' = gathered at live _ c.args.out.now _ (omega (arith, c.requires.1.lent)) (omega arith) c.gather.ensures in
    block_written c.requires.1 c.requires.0 (λ i. (c.type_inv.frames i).fits) (omega (arith, c.min-live.ensures)) data'
    (zeroed (at + live) (4096 - live) _ _ _ (omega (arith, data'.same, c.requires.1.lent)) (omega arith) (c.fill.ensures.after (λ y e. e)))
