use Rattle.std.proofs.Common.{◌≡◌, ◌+◌, ◌*◌, length, arith, refl}
use Rattle.numbers.proofs.Lists.{written_none, written_then}
use Rattle.dsf_write.proofs.Writing.{whole_blocks, block_args}
use Rattle.dsf_write.proofs.laid.put_data.Goals as goal

pub loop-k-init : goal.loop-k-init
loop-k-init c = written_none

pub put_block-requires : goal.put_block-requires
put_block-requires c = let l = c.loop-k in (c.order_table-table.ensures, rw l.invariant.same (block_args c.requires l.k c.loop-k-test.true))

pub loop-k-preserved : goal.loop-k-preserved
loop-k-preserved c =
    let l = c.loop-k in
    let e : l.k * 4096 + 4096 ≡ (l.k + 1) * 4096 = omega arith in
    rw e at (written_then l.invariant c.put_block.ensures (λ i h. refl) (λ i j h m. omega arith) (λ i h. refl))

pub returns : goal.returns
returns c =
    let l = c.loop-k in
    let e : l.k * 4096 ≡ length c.args.out.now = omega (arith, whole_blocks c.requires) in
    rw e at l.invariant
