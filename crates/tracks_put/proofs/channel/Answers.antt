use Rattle.std.proofs.Common.{◌≡◌, ◌-◌, ◌+◌, refl, arith}
use Rattle.numbers.proofs.Lists.{written_none}
use Rattle.tracks_put.proofs.Channels.{above, within, cells, piece_fits, next_piece, next_place, two_parts}
use Rattle.tracks_put.proofs.channel.Goals as goal

pub loop-q-init : goal.loop-q-init
loop-q-init c =
    let a = c.args.channel in
    let z : a.first - a.first ≡ 0 = omega arith in
    (omega arith, c.requires.order, rw z (omega arith), rw z written_none)

pub slice_bounds-spread-end : goal.slice_bounds-spread-end
slice_bounds-spread-end c =
    let l = c.loop-q in
    omega (arith, within c.requires l.q c.min-stop.result l.invariant.0 (omega arith) (omega arith) (omega arith))

pub spread-requires : goal.spread-requires
spread-requires c =
    let l = c.loop-q in
    let stop = c.min-stop.result in
    let g = within c.requires l.q stop l.invariant.0 (omega arith) (omega arith) (omega arith) in
    let b = above c.requires l.q stop l.invariant.0 (omega arith) (omega arith) (omega arith) in (
      omega (arith, c.requires.channel),
      rw (l.invariant.3.same, l.invariant.2)
          (piece_fits c.requires l.q stop l.invariant.0 (omega arith) (omega arith) (omega arith) c.args.window.now.bytes.now c.args.table.now refl _ (omega (arith, g, b))),
      omega (arith, c.requires.room, l.invariant.3.same),
    )

pub overflow_add-j : goal.overflow_add-j
overflow_add-j c =
    let l = c.loop-q in
    omega (arith, cells c.requires l.q c.min-stop.result l.invariant.0 (omega arith) (omega arith) (omega arith), c.requires.room)

pub loop-q-preserved : goal.loop-q-preserved
loop-q-preserved c =
    let a = c.args.channel in
    let l = c.loop-q in
    let stop = c.min-stop.result in
    let m : l.q - a.first + (stop - l.q) ≡ stop - a.first = two_parts a.first l.q stop l.invariant.0 (omega arith) in (
      omega arith,
      omega arith,
      next_place a.channels c.args.at (l.q - a.first) (stop - l.q) (stop - a.first) l.j l.invariant.2 m,
      next_piece c.requires l.q stop l.invariant.0 (omega arith) (omega arith) (omega arith) c.args.window.now.bytes.now c.args.table.now refl l.invariant.3 (rw l.invariant.2 at c.spread.ensures),
    )
