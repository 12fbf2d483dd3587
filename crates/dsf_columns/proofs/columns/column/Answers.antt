use Rattle.std.proofs.Common.{◌≡◌, ◌+◌, ◌-◌, refl, arith}
use Rattle.numbers.proofs.Lists.{written_none}
use Rattle.dsf_columns.proofs.Strides.{above, within, cells, lent_small, piece_fits, piece, rest}
use Rattle.dsf_columns.proofs.columns.column.Goals as goal

pub loop-q-init : goal.loop-q-init
loop-q-init c =
    let a = c.args.channel in
    let z : a.first - a.first ≡ 0 = omega arith in
    (omega arith, c.requires.some, rw z written_none)

pub overflow_sub-from : goal.overflow_sub-from
overflow_sub-from c = omega (arith, above c.requires c.loop-q.q c.loop-q.invariant.0)

pub overflow_sub-at : goal.overflow_sub-at
overflow_sub-at c = c.loop-q.invariant.0

pub slice_bounds-spread-end : goal.slice_bounds-spread-end
slice_bounds-spread-end c =
    let l = c.loop-q in
    omega (arith, within c.requires l.q c.min-stop.result l.invariant.0 (omega arith) (omega arith) (omega arith))

pub spread-requires : goal.spread-requires
spread-requires c =
    let l = c.loop-q in
    let stop = c.min-stop.result in
    let g = within c.requires l.q stop l.invariant.0 (omega arith) (omega arith) (omega arith) in
    let b = above c.requires l.q l.invariant.0 in (
      omega (arith, c.requires.channel),
      rw l.invariant.2.same (piece_fits c.requires c.args.window.now.bytes.now c.args.table.now refl l.q stop l.invariant.0 (omega arith) (omega arith) (omega arith) _ (omega (arith, g, b))),
      omega (arith, lent_small c.requires, l.invariant.2.same),
    )

pub idle_at-requires : goal.idle_at-requires
idle_at-requires c =
    let a = c.args.channel in
    let same = c.loop-q.invariant.2.same in
    let inside = cells c.requires (a.end - a.first) (a.first + 4704 - a.end) (omega (arith, c.requires.some, c.requires.most)) in
    (omega (arith, c.requires.channel), omega (arith, inside), omega (arith, lent_small c.requires))

pub loop-q-preserved : goal.loop-q-preserved
loop-q-preserved c =
    let l = c.loop-q in (
      omega arith,
      omega arith,
      piece c.requires c.args.window.now.bytes.now c.args.table.now refl l.q c.min-stop.result l.invariant.0 (omega arith) (omega arith) (omega arith) l.invariant.2 c.spread.ensures,
    )

pub returns : goal.returns
returns c =
    let l = c.loop-q in
    let e : l.q ≡ c.args.channel.end = omega arith in
    rest c.requires c.args.window.now.bytes.now c.args.table.now (rw e at l.invariant.2) c.idle_at.ensures
