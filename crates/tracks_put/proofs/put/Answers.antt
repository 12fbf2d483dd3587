use Rattle.std.proofs.Common.{◌≡◌, refl, arith}
use Rattle.tracks_put.specs.inner.Putting.{table_byte}
use Rattle.tracks_put.proofs.Buffers.{placed_none, placed_more, channel_args, stretch_is}
use Rattle.tracks_put.proofs.put.Goals as goal

pub loop-number-init : goal.loop-number-init
loop-number-init c = placed_none

pub channel-requires : goal.channel-requires
channel-requires c =
    let l = c.loop-number in
    rw l.invariant.same (channel_args c.requires l.number c.loop-number-test.true (omega arith))

pub loop-number-preserved : goal.loop-number-preserved
loop-number-preserved c =
    let a = c.args in
    placed_more {f = λ d. table_byte _ _ _ _ d _} c.loop-number-test.true c.loop-number.invariant c.channel.ensures

pub returns : goal.returns
returns c =
    let l = c.loop-number in
    let a = c.args in
    let e : l.number ≡ a.header.channels = omega arith in
    let order = rw c.bit_order-order.ensures at c.order_table-table.ensures in
    stretch_is c.requires a.header.bits_per_sample a.window.now.bytes.now _ a.out.now l.out c.are_bytes.ensures order refl (rw e at l.invariant)
