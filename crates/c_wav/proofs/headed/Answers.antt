use Rattle.std.proofs.Common.{sym, rules}
use Rattle.codes.proofs.Known.{some_known, none_known}
use Rattle.c_wav.proofs.Done.{unknown_headed, known_headed}
use Rattle.c_wav.proofs.headed.Goals as goal

pub returns-in_default : goal.returns-in_default
returns-in_default c = unknown_headed _ _ _ _ (none_known _ _ (sym c.in_default.ensures))

pub returns : goal.returns
returns c =
    let k = some_known _ _ _ (sym c.in-Some.ensures) in
    known_headed _ _ _ _ (search rules) k.0 _ k.1 _ c.header.result c.header.ensures
