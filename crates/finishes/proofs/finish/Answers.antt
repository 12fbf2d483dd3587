-- `finish`: the turns are counted album by album.
use Rattle.std.proofs.Common.{◌≡◌, refl, sym, ◌∙◌, ap, ◌+◌, arith, length}
use Rattle.numbers.specs.Lists.{total}
use Rattle.boards.specs.Boards.{board}
use Rattle.finishes.proofs.DueFirst.{counted, passed}
use Rattle.finishes.proofs.Best.{simulated_finish}
use Rattle.boards.proofs.Ranges.{ranges}
use Rattle.finishes.proofs.finish.Goals as goal
use Rattle.finishes.proofs.finish.Goals.{then-place, else-place}

pub loop-b-init : goal.loop-b-init
unfolding total
loop-b-init c = (refl, omega arith, ranges _ c.requires.0)

pub place-requires : goal.place-requires
place-requires c = let r = c.loop-b.invariant.2 in (omega (arith, r.album c.loop-b.b c.loop-b-test.true), omega (arith, r.few))

pub place-requires-in-loop-b : goal.place-requires-in-loop-b
place-requires-in-loop-b c = let r = c.loop-b.invariant.2 in (omega (arith, r.album c.args.a c.requires.2), omega (arith, r.few))

pub turns-sum-requires : goal.turns-sum-requires
turns-sum-requires c =
    let r = c.loop-b.invariant.2 in
    let a = r.album c.loop-b.b c.loop-b-test.true in (a.framed, a.long, r.turning)

pub overflow_add-sum : goal.overflow_add-sum
overflow_add-sum c = omega (arith, c.loop-b.invariant.2.few)

pub loop-b-preserved : goal.loop-b-preserved
loop-b-preserved c =
    let l = c.loop-b in
    let a = c.args in
    let s = board a.frames.now a.dues.now a.turn in
    let other = c.place.ensures in
    let own = c.place-in-loop-b.ensures in
    let more = (l.invariant.2.album l.b c.loop-b-test.true).framed in
    elim c.if-place.branch [
      | then-place w ↦ (
        w.sum-is ∙ ap (λ k. l.sum + k) w.turns-sum.ensures.0
            ∙ counted s a.a l.b l.sum l.invariant.0 (omega (arith, own, other, w.if-place.true)) more,
        omega (arith, w.turns-sum.ensures.1, w.sum-is),
        l.invariant.2,
      )
      | else-place w ↦ (w.sum-is ∙ passed s a.a l.b l.sum l.invariant.0 (omega (arith, own, other, w.if-place.false)), omega (arith, w.sum-is), l.invariant.2)
    ]

pub returns : goal.returns
returns c =
    let l = c.loop-b in
    let e : l.b ≡ length c.args.frames.now = omega arith in (rw e at l.invariant.0 ∙ sym (simulated_finish _ l.invariant.2 c.args.a c.requires.2), omega (arith, l.invariant.2.few))
