use Rattle.tracks_step.proofs.Asking.{not_fitting}
use Rattle.tracks_step.proofs.asked.ready.Goals as goal

pub returns-in-Err : goal.returns-in-Err
returns-in-Err c =
    let a = c.args in
    not_fitting a.tracks.heads.now a.tracks.lengths.now a.settings a.first a.count a.windows a.scratch c.in_ok-album.album c.in_ok-album.ensures c.in-Err.error c.in-Err.ensures
