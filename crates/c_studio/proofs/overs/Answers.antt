use Rattle.std.proofs.Common.{sym, refl}
use Rattle.codes.proofs.Known.{some_known}
use Rattle.codes.proofs.Calls.{done_so}
use Rattle.c_studio.proofs.overs.Goals as goal

pub returns : goal.returns
returns c =
    let k = some_known _ _ _ (sym c.in-Some.ensures) in
    done_so k.0 (refl, rw (k.1, ← c.overs.ensures) c.tell_overs.ensures)
