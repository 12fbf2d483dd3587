use Rattle.std.proofs.lemmas.Result.{err_from_is_err_and}
use Rattle.tracks_open.proofs.Opening.{first_stops, first_few, first_channels, rest_stops, all_opened}
use Rattle.tracks_open.proofs.open.Goals as goal

pub returns-in-Err : goal.returns-in-Err
returns-in-Err c = first_stops _ _ c.requires.some _ _ (rw c.head.ensures at c.in-Err.ensures)

pub rest-requires : goal.rest-requires
rest-requires c = (c.requires, first_few c.args.tracks.heads.now c.args.tracks.lengths.now c.requires.some _ _ (rw c.head.ensures at c.in-Ok.ensures))

pub returns-in_err-bytes : goal.returns-in_err-bytes
returns-in_err-bytes c =
    let p = err_from_is_err_and c.from_residual.result c.from_residual.ensures.1 in
    rw (p.1, p.2) (rest_stops _ _ c.requires.some _ c.in-Ok.header (rw c.head.ensures at c.in-Ok.ensures) _ (rw c.in_err-bytes.was at c.rest.ensures))

pub numbers-requires : goal.numbers-requires
numbers-requires c =
    record {
      few = first_channels c.args.tracks.heads.now c.args.tracks.lengths.now c.requires.some _ _ (rw c.head.ensures at c.in-Ok.ensures);
      most = (rw c.in_ok-bytes.was at c.rest.ensures).few;
    }

pub returns : goal.returns
returns c =
    all_opened _ _ c.requires.some _ c.in-Ok.header (rw c.head.ensures at c.in-Ok.ensures) _ c.in_ok-bytes.bytes (rw c.in_ok-bytes.was at c.rest.ensures) c.numbers.ensures
