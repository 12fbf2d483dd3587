use Rattle.text.proofs.Cuts.{Past}
use Rattle.text.proofs.cutting.split_once.Given as goal

-- no byte so far is the one
abbrev pub invariant-loop-k : goal.invariant-loop-k
invariant-loop-k l = Past l.byte l.text l.k
