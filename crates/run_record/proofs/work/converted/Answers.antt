use Rattle.std.proofs.Common.{◌≡◌, arith, rules}
use Rattle.reference.specs.Frames.{frame_count}
use Rattle.reference.specs.Output.{all_samples, channel_samples}
use Rattle.reference.proofs.Refusals.{some_channel, stored_frame, stored_count}
use Rattle.run_record.specs.inner.Calls.{present}
use Rattle.run_record.proofs.Same.{lent, slices_accepted, ran_places, ran_stats, ran_counts}
use Rattle.run_record.proofs.work.converted.Goals as goal

pub nonzero_div-slices : goal.nonzero_div-slices
nonzero_div-slices g c = omega (arith, some_channel c.args.conv c.requires.accepted_call.opens, stored_frame c.args.conv c.requires.accepted_call.opens)

pub invariant_of-slices : goal.invariant_of-slices
unfolding frame_count present
invariant_of-slices g c =
    let r = c.args.run in
    let before : c.unwrap_or.result.now ≡ present r.has_before r.before.now = search rules in
    let after : c.unwrap_or-2.result.now ≡ present r.has_after r.after.now = search rules in
    rw (stored_count c.args.conv c.requires.accepted_call.opens r.frames.now, before, after)
    (record { lent = lent c.args.conv r.has_before r.before.now r.frames.now r.has_after r.after.now c.requires.accepted_call })

pub convert_slices-requires-clause-accepted : goal.convert_slices-requires-clause-accepted
unfolding frame_count present
convert_slices-requires-clause-accepted g c =
    let r = c.args.run in
    let before : c.unwrap_or.result.now ≡ present r.has_before r.before.now = search rules in
    let after : c.unwrap_or-2.result.now ≡ present r.has_after r.after.now = search rules in
    rw (stored_count c.args.conv c.requires.accepted_call.opens r.frames.now, before, after)
    (slices_accepted c.args.conv r.has_before r.before.now r.frames.now r.has_after r.after.now c.requires.accepted_call (search rules) (search rules))

pub convert_slices-requires-clause-room : goal.convert_slices-requires-clause-room
unfolding frame_count all_samples channel_samples
convert_slices-requires-clause-room g c = rw (stored_count c.args.conv c.requires.accepted_call.opens c.args.run.frames.now) c.requires.room

pub convert_slices-requires-clause-few : goal.convert_slices-requires-clause-few
unfolding frame_count
convert_slices-requires-clause-few g c = rw (stored_count c.args.conv c.requires.accepted_call.opens c.args.run.frames.now) c.requires.few

pub returns-clause-out_after : goal.returns-clause-out_after
unfolding present
returns-clause-out_after g c =
    let r = c.args.run in
    let before : c.unwrap_or.result.now ≡ present r.has_before r.before.now = search rules in
    let after : c.unwrap_or-2.result.now ≡ present r.has_after r.after.now = search rules in
    let ran = rw (before, after) at c.convert_slices.ensures in
    ran_places c.args.conv r.has_before r.before.now r.frames.now r.has_after r.after.now c.requires.accepted_call ran

pub returns-clause-counts_after : goal.returns-clause-counts_after
unfolding present
returns-clause-counts_after g c =
    let r = c.args.run in
    let before : c.unwrap_or.result.now ≡ present r.has_before r.before.now = search rules in
    let after : c.unwrap_or-2.result.now ≡ present r.has_after r.after.now = search rules in
    let ran = rw (before, after) at c.convert_slices.ensures in
    ran_counts c.args.conv r.has_before r.before.now r.frames.now r.has_after r.after.now c.requires.accepted_call ran

pub returns-clause-value : goal.returns-clause-value
unfolding present
returns-clause-value g c =
    let r = c.args.run in
    let before : c.unwrap_or.result.now ≡ present r.has_before r.before.now = search rules in
    let after : c.unwrap_or-2.result.now ≡ present r.has_after r.after.now = search rules in
    let ran = rw (before, after) at c.convert_slices.ensures in
    ran_stats c.args.conv r.has_before r.before.now r.frames.now r.has_after r.after.now c.requires.accepted_call ran
