use Rattle.std.proofs.Common.{sym, rules, refl, ne_eqb}
use Rattle.codes.proofs.Known.{some_known}
use Rattle.codes.proofs.Calls.{both_hold, done_so}
use Rattle.reference.specs.Frames.{Run}
use Rattle.c_converter.specs.Blocks.{input_run, there_counts}
use Rattle.c_converter.specs.inner.Blocks.{as_input}
use Rattle.c_stats.specs.Conversions.{results}
use Rattle.c_calls.specs.inner.Made.{BytesMade}
use Rattle.c_calls.proofs.Done.{bytes_done, any_unlent}
use Rattle.c_calls.proofs.conversions.convert_bytes.Goals as goal
use Rattle.c_calls.proofs.conversions.convert_bytes.Goals.{then-input-eq1, else-input-eq1}

pub returns : goal.returns
returns c =
    let a = c.args in
    let m = c.if-input-eq1 in
    let told = c.tell_conversion in
    let k = some_known _ _ _ (sym c.in-Some.ensures) in
    let run : Run = input_run (as_input a.input) in
    let made : BytesMade a.kind c.in-Some.conv run (there_counts a.input.presence) a.out.now a.counts.now m.out m.counts m.made =
    elim m.branch [
      | then-input-eq1 w ↦ rw (w.if-input-eq1.true, w.out-is, w.counts-is, w.made-is, ← w.run.ensures) w.counted-made.ensures
      | else-input-eq1 w ↦ rw (ne_eqb _ _ w.if-input-eq1.false, w.out-is, w.counts-is, w.made-is, ← w.run-else-input-eq1.ensures) (any_unlent a.kind a.counts.now w.uncounted-made.ensures)
    ] in
    done_so (both_hold _ _ k.0 (search rules))
    (bytes_done k.1 refl m.made (results a.stats.now a.«data».now a.decibels.now)
    (results told.new.stats told.new.«data» told.new.decibels) told.ensures.told_whole told.ensures.stats_after a.kind made)
