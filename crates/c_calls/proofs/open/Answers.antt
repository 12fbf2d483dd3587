use Rattle.std.proofs.Common.{sym}
use Rattle.codes.proofs.Known.{some_known}
use Rattle.codes.proofs.Calls.{done_so}
use Rattle.c_calls.proofs.Done.{open_done}
use Rattle.c_calls.proofs.open.Goals as goal

pub returns : goal.returns
returns c =
    let k = some_known _ _ _ (sym c.in-Some.ensures) in
    done_so k.0 (open_done _ _ c.open.result k.1 c.open.ensures c.tell_opening.ensures.told_whole c.tell_opening.ensures.numbers_after)
