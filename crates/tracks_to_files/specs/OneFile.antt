-- One file is the album of one track: its WAV file is the header and the samples of its frames.
use Rattle.std.specs.Prelude.{◌≡◌, List, [], ◌∷◌, ◌++◌, ℕ, ◌≤◌, ◌<◌, length}
use Rattle.numbers.specs.Lists.{Each}
use Rattle.reference.specs.Output.{samples, stats, s24le}
use Rattle.reference.specs.Refusals.{rack, decide, accepted, too_many, opening_places}
use Rattle.reference.specs.Settings.{converter_of}
use Rattle.reference.specs.declared.Settings.{Settings}
use Rattle.reference.specs.declared.Converter.{Converter}
use Rattle.dsf.specs.Dsf.{channels, channel_type, frames}
use Rattle.dsf.specs.Reading.{HeadOf, header_places}
use Rattle.wav_format.specs.Wav.{wav_file}
use Rattle.wave_headers.specs.Headers.{wave_file}
use Rattle.wave_headers.specs.declared.HeaderKind.{HeaderKind}
use Rattle.wave_headers.specs.declared.HeaderKind.TheVariants.{Plain}
use Rattle.tracks.specs.Tracks.{Head, settings_for}
use Rattle.tracks.specs.OneTrack.{file_run}
use Rattle.tracks_open.specs.Open.{tracks_decision}
use Rattle.tracks_to_files.specs.Calls.{PieceStep, Parts}
use Rattle.tracks_to_files.specs.PlanToFiles.{AllWritten, all_told}

-- the file is accepted: by the reader, with the settings, and as long as a run may be
abbrev pub TakenFile : List ℕ → Settings → Type 0
TakenFile file s = decide (header_places file (length file) ++ (opening_places (settings_for s (channels file)) ++ (too_many rack (frames file) ∷ []))) ≡ accepted

abbrev pub file_converter : List ℕ → Settings → Converter
file_converter file s = converter_of (settings_for s (channels file))

-- the bytes of its samples
abbrev pub file_sample_bytes : List ℕ → Settings → List ℕ
file_sample_bytes file s = s24le (samples (file_converter file s) (file_run file))

pub record OneGives (file : List ℕ) (h : Head) (s : Settings) (parts : List (List (PieceStep (file ∷ []) (h ∷ []) s))) : Type 0 where
  pub taken : Each (λ p. Each (λ c. tracks_decision c.answer ≡ accepted) p) parts
  -- with any kind of header
  pub written : (kind : HeaderKind) (out : List ℕ) → AllWritten parts kind out → out ≡ wave_file kind s.rate (channels file) (channel_type file) (file_sample_bytes file s)
  -- and with the plain one the plain file
  pub plain : (out : List ℕ) → AllWritten parts Plain out → out ≡ wav_file s.rate (channels file) (file_sample_bytes file s)
  pub told : all_told parts ≡ stats (file_converter file s) (file_run file)

-- for every accepted file and 1 to 64 jobs. Proved in proofs/OneFile, `plan_to_file`
abbrev pub PlanToFile : Type 0
PlanToFile =
    (file : List ℕ) (h : Head) (s : Settings) (jobs : ℕ) (parts : List (List (PieceStep (file ∷ []) (h ∷ []) s))) → HeadOf file h.bytes h.long → TakenFile file s
    → 0 < jobs → jobs ≤ 64 → Parts jobs 0 parts → OneGives file h s parts
