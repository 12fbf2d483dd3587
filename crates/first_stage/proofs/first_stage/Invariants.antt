use Rattle.std.proofs.Common.{◌+◌, ◌*◌, pos}
use Rattle.numbers.specs.inner.Lists.{Held}
use Rattle.first_stage.specs.inner.Windows.{window_sum}
use Rattle.first_stage.proofs.first_stage.Given as goal

abbrev pub invariant-loop-turn : goal.invariant-loop-turn
invariant-loop-turn g l = Held (pos 0) (λ i. window_sum l.tables g.row.H l.bytes (l.start + l.step * i)) 0 (4 * l.turn) l.out

abbrev pub invariant-loop-k : goal.invariant-loop-k
invariant-loop-k g l = Held (pos 0) (λ i. window_sum l.tables g.row.H l.bytes (l.start + l.step * i)) 0 l.k l.out
