-- An album's numbers, and what an answer decides.
use Rattle.std.specs.Prelude.{◌≡◌, Result, Ok, Err, List, ℕ, ◌+◌, ◌-◌, ◌*◌, ◌/◌, ◌≤◌}
use Rattle.reference.specs.Frames.{frame_bytes}
use Rattle.reference.specs.Refusals.{Decision, accepted, error_decision, decide, most}
use Rattle.reference.specs.declared.PcmRate.{PcmRate}
use Rattle.reference.specs.declared.Settings.{Settings}
use Rattle.reference.specs.declared.Limit.TheVariants as limit
use Rattle.wav_format.specs.Wav.{frame_size}
use Rattle.tracks.specs.Tracks.{Head, all_length, frames_of_bytes, tracks_channels, tracks_type, open_places}
use Rattle.tracks_open.specs.declared.Album.{Album}
use Rattle.tracks_open.specs.declared.Refused.{Refused}

-- ---- an album's numbers

unfoldable pub piece_total : ℕ → ℕ
piece_total f = (f + 127) / 128

-- of so many bytes of each channel
unfoldable pub numbers : PcmRate → ℕ → ℕ → ℕ → Album
numbers rate n type p =
    let f = frames_of_bytes p in
    record {
      channels = n;
      channel_type = type;
      bytes = p;
      frames = f;
      «data» = f * frame_size rate n;
      frame = frame_size rate n;
      -- bytes of each channel filled up in the last frame
      filled = f * frame_bytes - p;
      pieces = piece_total f;
    }

unfoldable pub album_of : PcmRate → List Head → Album
album_of rate hs = numbers rate (tracks_channels hs) (tracks_type hs) (all_length hs)

-- ---- what is promised

-- what an answer decides
abbrev pub tracks_decision : {A : Type 0} → Result A Refused → Decision
tracks_decision (Ok a) = accepted
tracks_decision (Err e) = error_decision e.error

-- an answer names this track where it refuses
abbrev pub Names : {A : Type 0} → ℕ → Result A Refused → Type 0
Names k (Ok a) = Unit {0}
Names k (Err e) = e.track ≡ k

-- ---- what an album has that is accepted

pub record AlbumFits (a : Album) : Type 0 where
  pub few : a.channels ≤ 6
  pub most : a.frames ≤ most limit.Rack
  pub sized : a.frame ≤ 84672

-- proved in proofs/Accepted, `album_fits`
abbrev pub AcceptedFits : Type 0
AcceptedFits = (hs : List Head) (s : Settings) → decide (open_places hs s) ≡ accepted → AlbumFits (album_of s.rate hs)
