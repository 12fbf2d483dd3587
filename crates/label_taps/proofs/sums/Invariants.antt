use Rattle.label_taps.proofs.Taps.{Added}
use Rattle.label_taps.proofs.sums.Given as goal

abbrev pub invariant-loop-k : goal.invariant-loop-k
invariant-loop-k l = Added l.h l.k l.sum l.size
