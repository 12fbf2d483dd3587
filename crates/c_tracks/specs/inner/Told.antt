-- What is told of an answer that may name a track.
use Rattle.std.specs.Prelude.{Result, Ok, Err, List, ℕ}
use Rattle.reference.specs.declared.PcmError.{PcmError}
use Rattle.tracks_open.specs.declared.Album.{Album}
use Rattle.tracks_open.specs.declared.Refused.{Refused}
use Rattle.c_tracks.specs.Told.{album_numbers}

-- the answer without its track
abbrev pub reason : {A : Type 0} → Result A Refused → Result A PcmError
reason (Ok a) = Ok a
reason (Err e) = Err e.error

-- the track that it names; 0 where it is accepted
abbrev pub named : {A : Type 0} → Result A Refused → ℕ
named (Ok a) = 0
named (Err e) = e.track

abbrev pub album_after : Result Album Refused → List ℕ → List ℕ
album_after (Ok a) old = album_numbers a
album_after (Err e) old = old
