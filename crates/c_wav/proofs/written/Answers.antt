use Rattle.std.proofs.Common.{sym}
use Rattle.codes.proofs.Known.{some_known}
use Rattle.c_wav.proofs.Done.{known_written}
use Rattle.c_wav.proofs.written.Goals as goal

pub returns : goal.returns
returns c =
    let k = some_known _ _ _ (sym c.in-Some.ensures) in
    known_written _ _ _ _ k.0 _ k.1 _ c.write.result c.write.ensures
