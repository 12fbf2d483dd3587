use Rattle.dsf.proofs.Alike.{Agree}
use Rattle.dsf.proofs.fields.agrees.Given as goal

-- so far they agree
abbrev pub invariant-loop-k : goal.invariant-loop-k
invariant-loop-k l = Agree l.rest l.value l.k
