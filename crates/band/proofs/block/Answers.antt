use Rattle.std.proofs.Common.{rules, arith, ◌+◌, ◌^◌}
use Rattle.lanes.specs.inner.Lanes.{Lanes}
use Rattle.numbers.proofs.Lists.{written_as}
use Rattle.band.proofs.Bands.{centre_fits, lane_sums, whole_sums, rounded_is}
use Rattle.band.proofs.block.Goals as goal

pub eight-s-requires : goal.eight-s-requires
eight-s-requires g c =
    let i = c.args.i in
    let lanes : Lanes g.row.L (2 ^ 55) c.centre.result = record { size = λ l m. rw (c.centre.ensures.is l m) (centre_fits c.args.y.now (i + l) (c.requires.by_index (i + l) (omega arith))) } in
    (search rules, (omega arith, lanes))

pub round-requires : goal.round-requires
round-requires g c =
    let a = c.args.band in
    let sums = lane_sums c.args.y.now a.v.now c.args.i c.centre.ensures c.eight-s.ensures in
    (search rules, (omega arith, whole_sums c.args.y.now a.v.now c.args.i c.requires.whole sums))

pub returns : goal.returns
returns g c =
    let a = c.args.band in
    let i = c.args.i in
    let sums = lane_sums c.args.y.now a.v.now i c.centre.ensures c.eight-s.ensures in
    written_as c.round.ensures (λ l m. rounded_is g.row.Q c.args.y.now a.v.now c.eight-s.result i l (sums l m))
