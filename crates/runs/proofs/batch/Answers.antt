use Rattle.std.proofs.Common.{◌≡◌, arith}
use Rattle.blocks.proofs.Sums.{made_few, run_few, ready_of}
use Rattle.runs.proofs.Sums.{columns_none, columns_more, columns_few, between_all}
use Rattle.runs.proofs.batch.Goals as goal

pub loop-channel-init : goal.loop-channel-init
loop-channel-init g c = columns_none c.requires.tallied

pub overflow_add-clips : goal.overflow_add-clips
overflow_add-clips g c =
    let slices = (ready_of c.args.job.now).slices in
    let some = columns_few c.loop-channel.invariant (omega (arith, slices.few)) in
    record { fits = omega (arith, some, made_few c.channel-told.ensures, run_few c.args.job.now.conv slices) }

pub loop-channel-preserved : goal.loop-channel-preserved
loop-channel-preserved g c =
    let job = c.args.job.now in
    let slices = (ready_of job).slices in
    columns_more c.loop-channel.invariant _ c.loop-channel-test.true slices.few (omega (arith, run_few job.conv slices)) c.channel-told.ensures c.join.ensures

pub returns-clause-covered : goal.returns-clause-covered
returns-clause-covered g c =
    let e : c.loop-channel.channel ≡ c.args.job.now.conv.channels = omega arith in
    let done = rw e at c.loop-channel.invariant in
    record { box = done.box; tallied = between_all done.between }
