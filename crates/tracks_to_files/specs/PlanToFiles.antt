-- The plan, from tracks to files: its calls give every track's WAV file, one of all, and the whole album's statistics.
use Rattle.std.specs.Prelude.{◌≡◌, List, ◌++◌, map, ℕ, ◌+◌, ◌-◌, ◌*◌, ◌≤◌, ◌<◌, length, replicate}
use Rattle.numbers.specs.Lists.{tabulate, Each}
use Rattle.text.specs.Text.{joined}
use Rattle.reference.specs.Codes.{hertz}
use Rattle.reference.specs.Output.{stats}
use Rattle.reference.specs.Refusals.{decide, accepted}
use Rattle.reference.specs.Statistics.{no_stats}
use Rattle.reference.specs.declared.Settings.{Settings}
use Rattle.reference.specs.declared.ConvertStats.{ConvertStats}
use Rattle.text.specs.Lists.{part}
use Rattle.stretches.specs.Joining.{joined_on}
use Rattle.sheet.specs.Sheet.{sheet}
use Rattle.wav_format.specs.Wav.{frame_size}
use Rattle.wave_headers.specs.Speakers.{mask}
use Rattle.wave_headers.specs.Headers.{header_length, pad, kind_header, wave_file}
use Rattle.wave_headers.specs.declared.HeaderKind.{HeaderKind}
use Rattle.tracks.specs.Tracks.{Head, heads, tracks_channels, tracks_type, tracks_frames, tracks_run, tracks_converter, open_places, data_start, album_data, track_data, fill_data}
use Rattle.tracks.specs.TracksToFiles.{HoldsAt}
use Rattle.tracks.specs.Windows.{HeadsOf}
use Rattle.tracks_open.specs.Open.{tracks_decision}
use Rattle.tracks_plan.specs.Writes.{write_of}
use Rattle.tracks_plan.specs.declared.writing.Write.{Write}
use Rattle.tracks_to_files.specs.Heads.{tracks_of}
use Rattle.tracks_to_files.specs.Calls.{PieceStep, stats_of, Parts}

-- ---- files

-- which of a call's bytes a file has, and where: of a file that has the album's data from `low` on to `high`
abbrev pub write_for : {files : List (List ℕ)} {hs : List Head} {s : Settings} → ℕ → ℕ → PieceStep files hs s → Write
write_for low high c = write_of c.piece.place c.piece.bytes low high

-- such a file, with its header in front, of each call's bytes those that are told at their place, whoever put them
-- there and in whatever order, and its pad behind
pub record FileWritten {files : List (List ℕ)} {hs : List Head} {s : Settings} (parts : List (List (PieceStep files hs s))) (kind : HeaderKind) (low high : ℕ) (out : List ℕ) : Type 0 where
  pub long : length out ≡ header_length kind + (high - low) + pad (high - low)
  pub headed : HoldsAt out 0 (kind_header kind (hertz s.rate) (tracks_channels hs) (mask (tracks_type hs)) (high - low))
  pub each : Each (λ p. Each (λ c. HoldsAt out (header_length kind + (write_for low high c).at) (part (write_for low high c).begin (write_for low high c).end c.out')) p) parts
  pub padded : HoldsAt out (header_length kind + (high - low)) (replicate (pad (high - low)) 0)

-- track k's
abbrev pub TrackWritten : {files : List (List ℕ)} {hs : List Head} {s : Settings} → List (List (PieceStep files hs s)) → HeaderKind → ℕ → List ℕ → Type 0
TrackWritten {files} {hs} {s} parts kind k =
    FileWritten parts kind (data_start s.rate (tracks_channels hs) hs k) (data_start s.rate (tracks_channels hs) hs (k + 1))

-- one of all, what fills up the last frame with it
abbrev pub AllWritten : {files : List (List ℕ)} {hs : List Head} {s : Settings} → List (List (PieceStep files hs s)) → HeaderKind → List ℕ → Type 0
AllWritten {files} {hs} {s} parts kind = FileWritten parts kind 0 (tracks_frames hs * frame_size s.rate (tracks_channels hs))

-- the file that the definition gives for some of the album's data
abbrev pub file_of : List (List ℕ) → Settings → HeaderKind → List ℕ → List ℕ
file_of files s kind data' = wave_file kind s.rate (tracks_channels (heads (tracks_of files))) (tracks_type (heads (tracks_of files))) data'

-- ---- statistics

-- joined within each part and then over the parts, each time from no statistics on
abbrev pub parts_joined : List (List ConvertStats) → ConvertStats
parts_joined ls = joined_on no_stats (map (joined_on no_stats) ls)

abbrev pub all_told : {files : List (List ℕ)} {hs : List Head} {s : Settings} → List (List (PieceStep files hs s)) → ConvertStats
all_told parts = parts_joined (map (map (λ c. stats_of c.answer)) parts)

-- ---- what the calls give

pub record PlanGives (files : List (List ℕ)) (hs : List Head) (s : Settings) (parts : List (List (PieceStep files hs s))) : Type 0 where
  -- each is accepted
  pub taken : Each (λ p. Each (λ c. tracks_decision c.answer ≡ accepted) p) parts
  -- every track's file, of every kind
  pub tracks : (kind : HeaderKind) (k : ℕ) → k < length files → (out : List ℕ) → TrackWritten parts kind k out → out ≡ file_of files s kind (track_data (tracks_of files) s k)
  -- one of all
  pub all : (kind : HeaderKind) (out : List ℕ) → AllWritten parts kind out → out ≡ file_of files s kind (album_data (tracks_of files) s)
  -- the tracks' data end to end, then the fill, are the album's
  pub whole : joined (tabulate (track_data (tracks_of files) s) 0 (length files)) ++ fill_data (tracks_of files) s ≡ album_data (tracks_of files) s
  -- and its statistics and sheet
  pub told : all_told parts ≡ stats (tracks_converter s (heads (tracks_of files))) (tracks_run (tracks_channels (heads (tracks_of files))) (tracks_of files))
  pub sheets :
      sheet (tracks_channels hs) (all_told parts)
      ≡ sheet (tracks_channels hs) (stats (tracks_converter s (heads (tracks_of files))) (tracks_run (tracks_channels (heads (tracks_of files))) (tracks_of files)))

-- for every accepted list of files, all settings, and 1 to 64 jobs. Proved in proofs/PlanToFiles, `plan_to_files`
abbrev pub PlanToFiles : Type 0
PlanToFiles =
    (files : List (List ℕ)) (hs : List Head) (s : Settings) (jobs : ℕ) (parts : List (List (PieceStep files hs s))) → HeadsOf files hs
    → decide (open_places (heads (tracks_of files)) s) ≡ accepted → 0 < jobs → jobs ≤ 64 → Parts jobs 0 parts → PlanGives files hs s parts
