use Rattle.std.proofs.Common.{arith, length}
use Rattle.blocks.proofs.Sums.{ready_of, values_small, block_made, stored}
use Rattle.blocks.proofs.job.Job.write.Goals as goal

pub scale_block-told-requires-clause-by_index : goal.scale_block-told-requires-clause-by_index
scale_block-told-requires-clause-by_index g c = values_small (ready_of c.args.self.now) c.args.channel c.args.n (length c.args.y.now) c.requires.held

pub returns : goal.returns
returns g c = block_made (ready_of c.args.self.now) c.args.channel c.args.n (length c.args.y.now) c.requires.held c.scale_block-told.ensures.samples
    c.scale_block-told.ensures.is_told (stored g.P.Place.layout c.args.self.now.conv.channels (length c.scale_block-told.new.out) (length c.args.y.now) (omega arith) c.store.ensures)
