-- `turns`: what the simulation has done.
use Rattle.std.proofs.Common.{ap, eq-eqb}
use Rattle.codes.specs.declared.Answer.{Answer}
use Rattle.codes.proofs.Calls.{both_hold, done_so}
use Rattle.c_studio.proofs.Done.{turns_done}
use Rattle.c_studio.proofs.turns.Goals as goal

pub returns : goal.returns
returns c =
    let known = both_hold _ _ (eq-eqb _ _ c.if-dues-albums.false) (both_hold _ _ (eq-eqb _ _ c.if-finishes-albums.false) (eq-eqb _ _ c.if-late-albums.false)) in
    let number = ap (λ (r : Answer). r.number) c.of.ensures in
    done_so known (turns_done _ _ _ c.simulate-made.result c.simulate-made.ensures number)
