use Rattle.std.proofs.Common.{◌≡◌, ◌+◌, length, arith, refl, length-set}
use Rattle.numbers.proofs.Lists.{held_none, held_more, is_tabulate}
use Rattle.tracks.specs.Tracks.{heads_of, offset, all_length, data_start}
use Rattle.tracks_plan.proofs.Offsets.{offset_next, offset_most}
use Rattle.tracks_plan.proofs.marking.marks.Goals as goal

pub loop-k-init : goal.loop-k-init
unfolding offset all_length
loop-k-init c = (refl, held_none)

pub mark-requires : goal.mark-requires
mark-requires c =
    let t = c.args.tracks in
    (omega (arith, c.loop-k.invariant.0, c.requires.0.most, offset_most t.heads.now t.lengths.now c.loop-k.k (omega arith)), c.requires.1)

pub overflow_add-place : goal.overflow_add-place
overflow_add-place c =
    let t = c.args.tracks in
    let next = offset_next t.heads.now t.lengths.now c.loop-k.k c.loop-k-test.true in
    record { fits = omega (arith, next, c.length-place.ensures, c.loop-k.invariant.0, c.requires.0.most, offset_most t.heads.now t.lengths.now (c.loop-k.k + 1) (omega arith)) }

pub loop-k-preserved : goal.loop-k-preserved
unfolding data_start
loop-k-preserved c =
    let l = c.loop-k in
    let t = c.args.tracks in
    let z : 0 + l.k ≡ l.k = omega arith in (
      omega (arith, offset_next t.heads.now t.lengths.now l.k c.loop-k-test.true, c.length-place.ensures, l.invariant.0),
      held_more l.invariant.1 (omega (arith, c.requires.2)) (rw (z, ← l.invariant.0) c.mark.ensures),
    )

pub mark-requires-2 : goal.mark-requires-2
mark-requires-2 c =
    let t = c.args.tracks in
    (omega (arith, c.loop-k.invariant.0, c.requires.0.most, offset_most t.heads.now t.lengths.now c.loop-k.k (omega arith)), c.requires.1)

pub returns : goal.returns
unfolding data_start
returns c =
    let l = c.loop-k in
    let t = c.args.tracks in
    let n = length t.lengths.now in
    let z : 0 + n ≡ n = omega arith in
    let all : l.k ≡ n = omega arith in
    let held = rw all at l.invariant in
    let more = held_more held.1 (omega (arith, c.requires.2)) (rw (z, ← held.0) c.mark-2.ensures) in
    is_tabulate (data_start c.args.rate c.args.channels (heads_of t.heads.now t.lengths.now)) 0 (n + 1) 0 _ (simp length-set (omega (arith, c.requires.2))) more.is
