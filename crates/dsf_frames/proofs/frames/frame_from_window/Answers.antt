use Rattle.std.proofs.Common.{◌≡◌, refl, ◌∙◌, arith}
use Rattle.dsf_columns.specs.inner.Columns.{column_byte}
use Rattle.dsf_frames.proofs.Windows.{column_args, next, frame_is}
use Rattle.dsf_frames.proofs.frames.frame_from_window.Goals as goal

pub loop-number-init : goal.loop-number-init
loop-number-init c = (refl, λ d k h t. absurd (omega arith))

pub column-requires : goal.column-requires
column-requires c =
    let l = c.loop-number in
    rw (c.min-end.ensures, l.invariant.0) (column_args c.requires l.number c.loop-number-test.true (omega arith))

pub loop-number-preserved : goal.loop-number-preserved
loop-number-preserved c =
    let l = c.loop-number in
    let w = rw c.min-end.ensures at c.column.ensures in
    (w.same ∙ l.invariant.0, next {f = column_byte _ _ _ _ _ _} c.loop-number-test.true l.invariant.1 w)

pub returns : goal.returns
returns c =
    let l = c.loop-number in
    let a = c.args in
    let e : l.number ≡ a.header.channels = omega arith in
    let order = rw c.bit_order.ensures at c.order_table-table.ensures in
    frame_is c.requires a.header.bits_per_sample a.window.now.bytes.now _ l.out refl c.are_bytes.ensures.each order (omega arith) (l.invariant.0 ∙ c.requires.lent) (rw e at l.invariant.1)
