use Rattle.std.proofs.lemmas.Result.{err_from_is_err_and}
use Rattle.tracks_step.proofs.Working.{not_framed, gather_args, framed}
use Rattle.tracks_step.proofs.frames.Goals as goal

pub returns-in_err-ready : goal.returns-in_err-ready
returns-in_err-ready c =
    let p = err_from_is_err_and c.from_residual.result c.from_residual.ensures.1 in
    rw (p.1, p.2) (not_framed _ _ _ _ _ _ _ _ c.in_err-ready.ensures)

pub gather-requires : goal.gather-requires
gather-requires c =
    let a = c.args in
    gather_args a.tracks.heads.now a.tracks.lengths.now a.settings a.first a.count a.windows.now a.scratch.now c.in_ok-ready.ready c.in_ok-ready.ensures c.requires

pub returns : goal.returns
returns c =
    let a = c.args in
    framed a.tracks.heads.now a.tracks.lengths.now a.settings a.first a.count a.windows.now a.scratch.now c.in_ok-ready.ready c.in_ok-ready.ensures c.gather.ensures
