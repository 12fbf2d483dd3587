use Rattle.std.proofs.Common.{refl}
use Rattle.tracks_gather.proofs.Going.{begin, take_args, goes_on, fill_within, gathered}
use Rattle.tracks_gather.proofs.gather.Goals as goal

pub loop-k-init : goal.loop-k-init
loop-k-init c = begin c.requires c.args.windows.now c.args.out.now refl refl

pub take-next-requires : goal.take-next-requires
take-next-requires c =
    let l = c.loop-k in
    take_args c.requires c.args.windows.now c.args.out.now refl refl l.k l.next l.out c.loop-k-test.true l.invariant

pub loop-k-preserved : goal.loop-k-preserved
loop-k-preserved c =
    let l = c.loop-k in
    goes_on c.requires c.args.windows.now c.args.out.now refl refl l.k l.next _ l.out _ c.loop-k-test.true l.invariant c.take-next.ensures c.take-next.auto.out

pub fill-requires : goal.fill-requires
fill-requires c =
    let l = c.loop-k in
    rw (c.saturating_sub-bytes.ensures, c.min.ensures) (fill_within c.requires c.args.windows.now c.args.out.now refl refl l.k l.next l.out c.loop-k-test.false l.invariant)

pub returns : goal.returns
returns c =
    let l = c.loop-k in
    gathered c.requires c.args.windows.now c.args.out.now refl refl l.k l.next l.out c.loop-k-test.false l.invariant (rw (c.saturating_sub-bytes.ensures, c.min.ensures) at c.fill.ensures)
