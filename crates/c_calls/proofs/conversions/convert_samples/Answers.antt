use Rattle.std.proofs.Common.{sym, rules}
use Rattle.codes.proofs.Known.{some_known}
use Rattle.codes.proofs.Calls.{both_hold, done_so}
use Rattle.c_stats.specs.Conversions.{results}
use Rattle.c_calls.proofs.Done.{samples_done}
use Rattle.c_calls.proofs.conversions.convert_samples.Goals as goal

pub returns : goal.returns
returns c =
    let a = c.args in
    let made = c.to_samples-made in
    let told = c.tell_conversion in
    let k = some_known _ _ _ (sym c.in-Some.ensures) in
    done_so (both_hold _ _ k.0 (search rules))
    (samples_done k.1 c.run.ensures made.result (results a.stats.now a.«data».now a.decibels.now)
    (results told.new.stats told.new.«data» told.new.decibels) told.ensures.told_whole told.ensures.stats_after a.kind made.ensures)
