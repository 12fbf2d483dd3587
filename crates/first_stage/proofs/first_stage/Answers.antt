use Rattle.std.proofs.Common.{arith, ◌≡◌, ◌+◌, ◌*◌, ap, ◌∙◌, set, length-set}
use Rattle.numbers.proofs.Lists.{held_more}
use Rattle.numbers.proofs.Machine.{t, val}
use Rattle.first_stage.specs.inner.Windows.{window_sum}
use Rattle.first_stage.proofs.first_stage.Goals as goal

pub loop-turn-preserved : goal.loop-turn-preserved
loop-turn-preserved g c =
    let s = c.args in
    let sum = window_sum s.tables.now g.row.H s.bytes.now in
    let k = 4 * c.loop-turn.turn in
    let e2 : k + 1 + 1 ≡ k + 2 = omega arith in
    let e3 : k + 2 + 1 ≡ k + 3 = omega arith in
    let e4 : k + 3 + 1 ≡ 4 * (c.loop-turn.turn + 1) = omega arith in
    let a = t c.window-a.result in
    let b = t c.window-b.result in
    let d = t c.window-c.result in
    let one = held_more c.loop-turn.invariant (omega arith) (val _ _ c.window-a.type_inv (c.window-a.ensures ∙ ap sum (omega arith))) in
    let long1 = length-set c.loop-turn.out k a in
    let two = rw e2 at (held_more one (omega (arith, long1)) (val _ _ c.window-b.type_inv (c.window-b.ensures ∙ ap sum (omega arith)))) in
    let long2 = length-set (set c.loop-turn.out k a) (k + 1) b in
    let three = rw e3 at (held_more two (omega (arith, long1, long2)) (val _ _ c.window-c.type_inv (c.window-c.ensures ∙ ap sum (omega arith)))) in
    let long3 = length-set (set (set c.loop-turn.out k a) (k + 1) b) (k + 2) d in
    rw e4 at (held_more three (omega (arith, long1, long2, long3)) (val _ _ c.window-d.type_inv (c.window-d.ensures ∙ ap sum (omega arith))))

pub loop-k-preserved : goal.loop-k-preserved
loop-k-preserved g c =
    let sum = window_sum c.args.tables.now g.row.H c.args.bytes.now in
    held_more c.loop-k.invariant (omega arith) (val _ _ c.window.type_inv (c.window.ensures ∙ ap sum (omega arith)))
