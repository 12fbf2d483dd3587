use Rattle.std.proofs.Common.{sym}
use Rattle.codes.proofs.Calls.{done_so}
use Rattle.codes.proofs.Known.{some_known}
use Rattle.c_stats.specs.Conversions.{results}
use Rattle.c_tracks.specs.Asked.{asked_heads}
use Rattle.c_tracks.specs.inner.Asked.{as_asked}
use Rattle.c_tracks.specs.Steps.{lists}
use Rattle.c_tracks.proofs.Known.{lists_fit}
use Rattle.c_tracks.proofs.Stepped.{step_done}
use Rattle.c_tracks.proofs.stepping.step.Goals as goal

pub step-made-requires : goal.step-made-requires
step-made-requires c = lists_fit (as_asked c.args.asked) (some_known _ _ _ (sym c.in-Some.ensures)).0

pub returns : goal.returns
returns c =
    let a = c.args in
    let k = some_known _ _ _ (sym c.in-Some.ensures) in
    let made = c.step-made in
    let told = rw c.reason.ensures at c.tell_conversion.ensures in
    done_so k.0
    (rw k.1
    (step_done (asked_heads (as_asked a.asked)) c.in-Some.settings a.first a.count a.windows.now (lists a.scratch.now a.out.now) (lists made.new.scratch made.new.out) made.result made.ensures
    (results a.stats.now a.«data».now a.decibels.now) (results c.tell_conversion.new.stats c.tell_conversion.new.«data» c.tell_conversion.new.decibels) told.told_whole told.stats_after))
