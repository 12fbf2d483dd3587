use Rattle.std.proofs.Common.{sym, refl}
use Rattle.codes.proofs.Known.{some_known}
use Rattle.codes.proofs.Calls.{both_hold, done_so}
use Rattle.c_studio.proofs.join_stats.Goals as goal

pub returns : goal.returns
returns c =
    let a = some_known _ _ _ (sym c.in-Some.ensures) in
    let b = some_known _ _ _ (sym c.in-Some-stats_of.ensures) in
    done_so (both_hold _ _ a.0 b.0) (refl, rw (a.1, b.1, ← c.join_stats.ensures) c.put_stats.ensures)
