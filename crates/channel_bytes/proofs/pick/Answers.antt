use Rattle.std.proofs.Common.{◌+◌, ◌*◌, ◌<◌, arith}
use lib.Arith.{digits_lt}
use Rattle.numbers.proofs.Lists.{get_d_any, held_more}
use Rattle.channel_bytes.proofs.pick.Goals as goal

pub loop-j-preserved : goal.loop-j-preserved
loop-j-preserved c =
    let inside : (c.args.offset + c.loop-j.j) * c.args.channels + c.args.channel < 4704 * c.args.channels = digits_lt (omega arith) (omega arith) in
    held_more c.loop-j.invariant (omega arith) (get_d_any c.args.part.now _ 0 0x69 (omega arith))
