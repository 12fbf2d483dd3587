-- `standing`: the number of the low end.
use Rattle.std.proofs.Common.{refl}
use Rattle.c_studio.proofs.standing.Goals as goal

pub returns-in-Low : goal.returns-in-Low
returns-in-Low c = rw (c.in-Some.is, c.in-Low.is) refl
