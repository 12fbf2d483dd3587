use Rattle.std.proofs.Common.{◌/◌, refl, arith}
use Rattle.tracks_reads.proofs.Stretches.{in_order}
use Rattle.tracks_gather.proofs.Stretches.{read_args, put_args, window_length, taken, rest_is}
use Rattle.tracks_gather.proofs.take.Goals as goal

pub read-read-requires : goal.read-read-requires
read-read-requires c =
    let a = c.args in
    read_args a.tracks.heads.now a.tracks.lengths.now a.k a.start a.span a.windows.now c.requires _ (rw c.head.ensures at c.header_numbers-header.ensures) (record { start = _; end = _ }) refl refl

pub put_track-requires : goal.put_track-requires
put_track-requires c =
    let a = c.args in
    let header = rw c.head.ensures at c.header_numbers-header.ensures in
    rw (rest_is a.windows.now a.start.window)
    (put_args a.tracks.heads.now a.tracks.lengths.now a.k a.start a.span a.windows.now c.requires _ header _ c.read-read.ensures.0 c.read-read.ensures.1)

pub overflow_sub-result : goal.overflow_sub-result
overflow_sub-result c =
    let a = c.args in
    let header = c.header_numbers-header.result in
    rw (c.read-read.ensures.0, c.read-read.ensures.1) (in_order header.channels (header.samples / 8) a.start.byte a.span)

pub overflow_add-result-2 : goal.overflow_add-result-2
overflow_add-result-2 c =
    let a = c.args in
    let header = rw c.head.ensures at c.header_numbers-header.ensures in
    omega (arith, window_length a.tracks.heads.now a.tracks.lengths.now a.k a.start a.span a.windows.now c.requires _ header _ c.read-read.ensures.0 c.read-read.ensures.1, c.requires.within)

pub returns : goal.returns
returns c =
    let a = c.args in
    let header = rw c.head.ensures at c.header_numbers-header.ensures in
    taken a.tracks.heads.now a.tracks.lengths.now a.k a.start a.span a.windows.now c.requires _ header _ c.read-read.ensures.0 c.read-read.ensures.1
    (rw (rest_is a.windows.now a.start.window) at c.put_track.ensures) refl refl
