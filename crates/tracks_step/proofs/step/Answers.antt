use Rattle.std.proofs.Common.{ap, ◌∙◌, arith}
use Rattle.std.proofs.lemmas.Result.{err_from_is_err_and}
use Rattle.reference.specs.Settings.{converter_of}
use Rattle.tracks_step.proofs.Working.{not_ready, few_bytes, not_lent, gather_args, frames_are, few_channels, slice_args, stepped}
use Rattle.tracks_step.proofs.step.Goals as goal

pub returns-in_err-ready : goal.returns-in_err-ready
returns-in_err-ready c =
    let p = err_from_is_err_and c.from_residual.result c.from_residual.ensures.1 in
    rw (p.1, p.2) (not_ready _ _ _ _ _ _ _ _ _ c.in_err-ready.ensures)

pub overflow_mul-count : goal.overflow_mul-count
overflow_mul-count c =
    let a = c.args in
    omega (arith, few_bytes a.tracks.heads.now a.tracks.lengths.now a.settings a.first a.count a.windows.now a.scratch.now a.out.now c.in_ok-ready.ready c.in_ok-ready.ensures)

pub returns-in-Err : goal.returns-in-Err
returns-in-Err c =
    let a = c.args in
    not_lent a.tracks.heads.now a.tracks.lengths.now a.settings a.first a.count a.windows.now a.scratch.now a.out.now c.in_ok-ready.ready c.in_ok-ready.ensures c.in-Err.error c.in-Err.ensures

pub gather-requires : goal.gather-requires
gather-requires c =
    let a = c.args in
    gather_args a.tracks.heads.now a.tracks.lengths.now a.settings a.first a.count a.windows.now a.scratch.now c.in_ok-ready.ready c.in_ok-ready.ensures c.requires

pub overflow_cast-channels : goal.overflow_cast-channels
overflow_cast-channels c =
    let a = c.args in
    omega (arith, few_channels a.tracks.heads.now a.tracks.lengths.now a.settings a.first a.count a.windows.now a.scratch.now c.in_ok-ready.ready c.in_ok-ready.ensures)

pub convert_piece-requires : goal.convert_piece-requires
convert_piece-requires c =
    let a = c.args in
    let made = frames_are a.tracks.heads.now a.tracks.lengths.now a.settings a.first a.count a.windows.now a.scratch.now c.in_ok-ready.ready c.in_ok-ready.ensures c.gather.ensures in
    slice_args a.tracks.heads.now a.tracks.lengths.now a.settings a.first a.count a.windows.now a.scratch.now a.out.now c.in_ok-ready.ready c.in_ok-ready.ensures
    c.in_default.ensures _ (c.converter-conv.ensures ∙ ap converter_of c.settings_of.ensures) _ made

pub returns-in-Ok : goal.returns-in-Ok
returns-in-Ok c =
    let a = c.args in
    let made = frames_are a.tracks.heads.now a.tracks.lengths.now a.settings a.first a.count a.windows.now a.scratch.now c.in_ok-ready.ready c.in_ok-ready.ensures c.gather.ensures in
    stepped a.tracks.heads.now a.tracks.lengths.now a.settings a.first a.count a.windows.now a.scratch.now a.out.now c.in_ok-ready.ready c.in_ok-ready.ensures
    c.in_default.ensures _ (c.converter-conv.ensures ∙ ap converter_of c.settings_of.ensures) _ made c.in-Ok.told c.in-Ok.ensures
