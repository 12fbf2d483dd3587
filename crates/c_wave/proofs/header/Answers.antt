use Rattle.std.proofs.Common.{sym}
use Rattle.codes.proofs.Known.{some_known}
use Rattle.codes.proofs.Calls.{done_so}
use Rattle.c_wave.proofs.Done.{header_done}
use Rattle.c_wave.proofs.header.Goals as goal

pub returns : goal.returns
returns c =
    let k = some_known _ _ _ (sym c.in-Some.ensures) in
    done_so k.0 (header_done k.1 _ _ _ c.header-made.result c.header-made.ensures c.tell_lengths.ensures)
