use Rattle.std.proofs.Common.{arith}
use Rattle.tracks_plan.proofs.Stretches.{none_yet, next_fits, read_fits, one_more, all_read}
use Rattle.tracks_plan.proofs.reading.between.Goals as goal

pub loop-k-init : goal.loop-k-init
loop-k-init c = none_yet c.args.tracks.heads.now c.args.tracks.lengths.now c.args.channels c.args.span.from c.args.span.to c.args.out.now

pub overflow_sub-bytes : goal.overflow_sub-bytes
overflow_sub-bytes c =
    let r = c.read-read in
    omega (arith, (read_fits c.args.channels c.length-length.result c.loop-k.offset c.args.span r.result (record { six = c.requires.few; most = c.requires.most }) r.ensures.0 r.ensures.1).0)

pub overflow_add-all : goal.overflow_add-all
overflow_add-all c =
    let r = c.read-read in
    let most = (read_fits c.args.channels c.length-length.result c.loop-k.offset c.args.span r.result (record { six = c.requires.few; most = c.requires.most }) r.ensures.0 r.ensures.1).1 in
    record { fits = omega (arith, most, c.loop-k.invariant.small, c.requires.sized.args.few) }

pub overflow_add-offset : goal.overflow_add-offset
overflow_add-offset c =
    let l = c.loop-k in
    record { fits = omega (arith, next_fits _ _ _ _ _ l.k l.offset l.all l.out l.invariant c.loop-k-test.true, c.requires.sized.most, c.length-length.ensures) }

pub loop-k-preserved : goal.loop-k-preserved
loop-k-preserved c =
    let l = c.loop-k in
    one_more _ _ _ _ _ l.k l.offset l.all l.out l.invariant c.loop-k-test.true c.read-read.result c.length-length.result c.put.new.out (omega (arith, c.requires.lent))
    (record { six = c.requires.few; most = c.requires.most }) c.length-length.ensures c.read-read.ensures.0 c.read-read.ensures.1 c.put.ensures

pub returns : goal.returns
returns c =
    let l = c.loop-k in
    all_read _ _ _ _ _ l.k l.offset l.all l.out l.invariant c.loop-k-test.false (omega (arith, c.requires.lent))
