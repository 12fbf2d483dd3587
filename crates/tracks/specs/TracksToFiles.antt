-- From tracks to files: steps that cut the album in any way give, together, each track's data in its file, and the
-- whole album's statistics.
use Rattle.std.specs.Prelude.{◌≡◌, List, [], ◌∷◌, ◌++◌, map, flat_map, false, ℕ, ◌+◌, ◌-◌, ◌*◌, ◌≤◌, ◌<◌, length, take, drop}
use Rattle.numbers.specs.Lists.{tabulate, Each}
use Rattle.text.specs.Text.{joined}
use Rattle.reference.specs.Output.{samples, stats, s24le}
use Rattle.reference.specs.Statistics.{all_joined}
use Rattle.reference.specs.Refusals.{rack, decide, accepted, convert_places}
use Rattle.reference.specs.declared.Settings.{Settings}
use Rattle.reference.specs.declared.ConvertStats.{ConvertStats}
use Rattle.wav_format.specs.Wav.{frame_size}
use Rattle.tracks.specs.Tracks.{Track, heads, tracks_channels, tracks_frames, tracks_run, tracks_piece, tracks_converter, open_places, data_start, album_data, track_data, fill_data}

-- bytes of the samples of a frame of the album, all channels
abbrev pub album_frame : List Track → Settings → ℕ
album_frame ts s = frame_size s.rate (tracks_channels (heads ts))

-- a step: bytes and statistics of some frames of the album, converted with the album's frames next to them
pub record Step (ts : List Track) (s : Settings) : Type 0 where
  pub first : ℕ
  pub count : ℕ
  pub out : List ℕ
  pub told : ConvertStats
  pub written : out ≡ s24le (samples (tracks_converter s (heads ts)) (tracks_piece (tracks_channels (heads ts)) ts first count))
  pub counted : told ≡ stats (tracks_converter s (heads ts)) (tracks_piece (tracks_channels (heads ts)) ts first count)

-- on any of the album's frames a call of `convert` with a list as long as their bytes is accepted: so it gives a step.
-- Proved in proofs/TracksToFiles, `piece_accepted`
abbrev pub PieceAccepted : Type 0
PieceAccepted =
    (ts : List Track) (s : Settings) → decide (open_places (heads ts) s) ≡ accepted → (first count : ℕ) → first + count ≤ tracks_frames (heads ts)
    → (out : List ℕ) → length out ≡ count * album_frame ts s
    → decide (convert_places rack (tracks_converter s (heads ts)) (tracks_piece (tracks_channels (heads ts)) ts first count) out false []) ≡ accepted

-- steps that cut the frames from `from` to f, in order: any counts, none among them too
abbrev pub Cut : {ts : List Track} {s : Settings} → ℕ → ℕ → List (Step ts s) → Type 0
Cut from f [] = from ≡ f
Cut from f (p ∷ ps) = (p.first ≡ from) × Cut (from + p.count) f ps

-- ---- files

-- a file has these bytes from a place on
pub record HoldsAt (out : List ℕ) (place : ℕ) (bytes : List ℕ) : Type 0 where
  pub is : take (length bytes) (drop place out) ≡ bytes

-- of bytes that stand from place a on, those from `low` on to `high`
unfoldable pub clip : ℕ → ℕ → ℕ → List ℕ → List ℕ
clip low high a l = drop (low - a) (take (high - a) l)

-- a file with one list in front and one behind, and between them the album's data from `low` on to `high`: of each
-- step's bytes those at their place, whoever put them there, and in whatever order
pub record Holding {ts : List Track} {s : Settings} (steps : List (Step ts s)) (low high : ℕ) (front behind out : List ℕ) : Type 0 where
  pub long : length out ≡ length front + (high - low) + length behind
  pub begins : HoldsAt out 0 front
  pub each : Each (λ p. HoldsAt out (length front + (p.first * album_frame ts s - low)) (clip low high (p.first * album_frame ts s) p.out)) steps
  pub ends : HoldsAt out (length front + (high - low)) behind

-- track k's
abbrev pub HoldingTrack : {ts : List Track} {s : Settings} → List (Step ts s) → ℕ → List ℕ → List ℕ → List ℕ → Type 0
HoldingTrack {ts} {s} steps k =
    Holding steps (data_start s.rate (tracks_channels (heads ts)) (heads ts) k) (data_start s.rate (tracks_channels (heads ts)) (heads ts) (k + 1))

-- all of the album, what fills up its last frame with it
abbrev pub HoldingAll : {ts : List Track} {s : Settings} → List (Step ts s) → List ℕ → List ℕ → List ℕ → Type 0
HoldingAll {ts} {s} steps = Holding steps 0 (tracks_frames (heads ts) * album_frame ts s)

-- ---- what they give

pub record Gives {ts : List Track} {s : Settings} (steps : List (Step ts s)) : Type 0 where
  -- the steps' bytes end to end are the album's
  pub whole : flat_map (λ p. p.out) steps ≡ album_data ts s
  -- and so are the tracks' data end to end, before those of the fill
  pub parts : joined (tabulate (track_data ts s) 0 (length ts)) ++ fill_data ts s ≡ album_data ts s
  pub tracks : (k : ℕ) → k < length ts → (front behind out : List ℕ) → HoldingTrack steps k front behind out → out ≡ front ++ (track_data ts s k ++ behind)
  pub all : (front behind out : List ℕ) → HoldingAll steps front behind out → out ≡ front ++ (album_data ts s ++ behind)
  pub told : all_joined (map (λ p. p.told) steps) ≡ stats (tracks_converter s (heads ts)) (tracks_run (tracks_channels (heads ts)) ts)

-- for all tracks that are accepted, all settings, and every cut. Proved in proofs/TracksToFiles, `tracks_to_files`
abbrev pub TracksToFiles : Type 0
TracksToFiles =
    (ts : List Track) (s : Settings) (steps : List (Step ts s)) → decide (open_places (heads ts) s) ≡ accepted → Cut 0 (tracks_frames (heads ts)) steps → Gives steps
