-- Every track's header, and that of one file of all, is written.
use Rattle.std.specs.Prelude.{◌≡◌, List, [], cond, ℕ, ◌+◌, ◌-◌, ◌*◌, ◌<◌, length}
use Rattle.reference.specs.Refusals.{decide, accepted, refused}
use Rattle.reference.specs.declared.Settings.{Settings}
use Rattle.wav_format.specs.Wav.{frame_size}
use Rattle.wave_headers.specs.Choice.{kind_places}
use Rattle.wave_headers.specs.Laws.{plain_takes}
use Rattle.wave_headers.specs.declared.Format.TheVariants as format
use Rattle.tracks.specs.Tracks.{Head, tracks_channels, tracks_type, tracks_frames, open_places, data_start}

-- the call for so many bytes of an album's data is accepted, of the header that holds them, and of RF64; of the plain
-- header exactly where it tells so many, and else refused 12
pub record HeadersAccepted (hs : List Head) (bytes : ℕ) : Type 0 where
  pub auto : decide (kind_places format.Auto (tracks_channels hs) (tracks_type hs) bytes) ≡ accepted
  pub rf64 : decide (kind_places format.Rf64 (tracks_channels hs) (tracks_type hs) bytes) ≡ accepted
  pub wav : decide (kind_places format.Wav (tracks_channels hs) (tracks_type hs) bytes) ≡ cond (plain_takes (tracks_channels hs) bytes) accepted (refused 12 [])

pub record AllHeaded (hs : List Head) (s : Settings) : Type 0 where
  pub track : (k : ℕ) → k < length hs → HeadersAccepted hs (data_start s.rate (tracks_channels hs) hs (k + 1) - data_start s.rate (tracks_channels hs) hs k)
  pub all : HeadersAccepted hs (tracks_frames hs * frame_size s.rate (tracks_channels hs))

-- for every accepted album. Proved in proofs/Headed, `headers_taken`
abbrev pub HeadersTaken : Type 0
HeadersTaken = (hs : List Head) (s : Settings) → decide (open_places hs s) ≡ accepted → AllHeaded hs s
