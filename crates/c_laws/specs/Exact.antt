-- A call leaves nothing free: two answers to one call are equal, and so is all that they leave in memory. Proved in
-- proofs/Exact.
use Rattle.std.specs.Prelude.{◌≡◌, List, ℕ, ℤ, Float}
use Rattle.text.specs.Bytes.{Bytes}
use Rattle.reference.specs.Promises.{PackPromise}
use Rattle.reference.specs.Refusals.{Decision}
use Rattle.dsf.specs.Reading.{HeadOf}
use Rattle.codes.specs.Told.{ToldWritten}
use Rattle.c_converter.specs.Blocks.{CConverter, Input}
use Rattle.c_stats.specs.Conversions.{Results}
use Rattle.c_calls.specs.Calls.{GainCall, OpenCall, CWanted, ChangeCall, SamplesCall, BytesCall}
use Rattle.c_calls.specs.declared.conversions.ToSamples as samples_of
use Rattle.c_calls.specs.declared.conversions.ToBytes as bytes_of
use Rattle.c_studio.specs.Calls.{JoinCall, SheetCall, OversCall, TurnsCall}
use Rattle.c_dsf.specs.Calls.{WhyCall, WindowCall, GiveUpCall, GiveUpHeaderCall}
use Rattle.c_levels.specs.Calls.{LevelLists, LevelsCall, LastLineCall}
use Rattle.c_tracks.specs.Asked.{Asked}
use Rattle.c_tracks.specs.Calls.{Outputs, OpenAlbumCall as AlbumCall, PartCall, PieceCall, WritesCall}
use Rattle.c_tracks.specs.Steps.{Lists, FramesCall, StepCall}
use Rattle.c_wav.specs.Calls.{WavReadCall, WavHeaderCall}
use Rattle.c_wave.specs.Calls.{KindHeaderCall}

-- of a call, by what it leaves and what it answers
abbrev pub Exact : {M A : Type 0} → (M → A → Type 0) → Type 0
Exact {M} {A} Call = (m m' : M) (a a' : A) → Call m a → Call m' a' → (a ≡ a') × (m ≡ m')

-- of one that answers nothing
abbrev pub Leaves : {M : Type 0} → (M → Type 0) → Type 0
Leaves {M} Call = (m m' : M) → Call m → Call m' → m ≡ m'

-- ---- with a converter: `gain_exact`, `open_exact`, `change_exact`, `samples_exact`, `bytes_exact`, `pack_leaves`

abbrev pub GainExact : Type 0
GainExact = (db : Float) (gain : List Float) → Exact (λ (m : List Float × List Float). GainCall db gain m.0 m.1)

abbrev pub OpenExact : Type 0
OpenExact = (b : CConverter) (old : List ℕ) (decibels : List Float) → Exact (λ (m : List ℕ × List ℕ × List Float). OpenCall b m.0 old m.1 decibels m.2)

abbrev pub ChangeExact : Type 0
ChangeExact =
    (b : CConverter) (w : CWanted) (old : List ℕ) (decibels : List Float)
    → Exact (λ (m : List ℕ × List Float × List ℕ × List Float). ChangeCall b w m.0 m.1 old m.2 decibels m.3)

abbrev pub SamplesExact : Type 0
SamplesExact =
    (kind : samples_of.ToSamples) (b : CConverter) (i : Input) (out : List ℤ) (old : Results) → Exact (λ (m : List ℤ × Results). SamplesCall kind b i out m.0 old m.1)

abbrev pub BytesExact : Type 0
BytesExact =
    (kind : bytes_of.ToBytes) (b : CConverter) (i : Input) (out counts : List ℕ) (old : Results)
    → Exact (λ (m : List ℕ × List ℕ × Results). BytesCall kind b i out counts m.0 m.1 old m.2)

abbrev pub PackLeaves : Type 0
PackLeaves = (samples : List ℤ) (bytes : List ℕ) → Leaves (PackPromise samples bytes)

-- ---- of the studio: `join_exact`, `overs_exact`, `sheet_exact`, `turns_exact`

abbrev pub JoinExact : Type 0
JoinExact = (s t : List ℕ) → Exact (JoinCall s t)

abbrev pub OversExact : Type 0
OversExact = (samples : List ℤ) (n c : ℕ) (told : List ℕ) → Exact (OversCall samples n c told)

abbrev pub SheetExact : Type 0
SheetExact = (channels : ℕ) (s out told : List ℕ) → Exact (λ (m : List ℕ × List ℕ). SheetCall channels s out m.0 told m.1)

abbrev pub TurnsExact : Type 0
TurnsExact =
    (frames dues : List ℕ) (turn : ℕ) (finishes : List ℕ) (late : List ℤ) → Exact (λ (m : List ℕ × List ℤ). TurnsCall frames dues turn finishes late m.0 m.1)

-- ---- of the level report: `levels_exact`, `last_line_exact`

abbrev pub LevelsExact : Type 0
LevelsExact = (b : CConverter) (i : Input) (number : ℕ) (old : LevelLists) → Exact (LevelsCall b i number old)

abbrev pub LastLineExact : Type 0
LastLineExact = (frames clips : ℕ) (lines : List ℕ) → Exact (LastLineCall frames clips lines)

-- ---- about an album: `album_exact`, `part_leaves`, `piece_exact`, `writes_leave`, `frames_exact`, `step_exact`

abbrev pub AlbumExact : Type 0
AlbumExact = (w : Asked) (old : Outputs) → Exact (AlbumCall w old)

abbrev pub PartLeaves : Type 0
PartLeaves = (frames jobs j : ℕ) → Leaves (PartCall frames jobs j)

abbrev pub PieceExact : Type 0
PieceExact = (w : Asked) (i : ℕ) (plan reads : List ℕ) → Exact (λ (m : List ℕ × List ℕ). PieceCall w i plan m.0 reads m.1)

abbrev pub WritesLeave : Type 0
WritesLeave = (marks : List ℕ) (place bytes : ℕ) (out : List ℕ) → Leaves (WritesCall marks place bytes out)

abbrev pub FramesExact : Type 0
FramesExact =
    (w : Asked) (first count : ℕ) (windows scratch old : List ℕ) (decibels : List Float)
    → Exact (λ (m : List ℕ × List ℕ × List Float). FramesCall w first count windows scratch m.0 old m.1 decibels m.2)

abbrev pub StepExact : Type 0
StepExact =
    (w : Asked) (first count : ℕ) (windows : List ℕ) (l : Lists) (old : Results) → Exact (λ (m : Lists × Results). StepCall w first count windows l m.0 old m.1)

-- ---- about files: `written_exact` for each call about a DSF file that gives data, and the second entry of WAV files;
-- `why_exact`, `window_leaves`, `upload_exact`, `wav_read_exact`, `header_exact`

abbrev pub WrittenExact : Type 0
WrittenExact = (d : Decision) (whole l : List ℕ) → Exact (λ (m : List ℕ × List ℕ). ToldWritten d whole l m.0 m.1)

abbrev pub WhyExact : Type 0
WhyExact = (head : List ℕ) (n : ℕ) → Exact (WhyCall head n)

abbrev pub WindowLeaves : Type 0
WindowLeaves = (channels samples f : ℕ) → Leaves (WindowCall channels samples f)

abbrev pub UploadExact : Type 0
UploadExact = (file : List ℕ) → Bytes file → (place : List ℕ) → Exact (GiveUpCall file place)

abbrev pub WavReadExact : Type 0
WavReadExact = (file told : List ℕ) → Exact (WavReadCall file told)

abbrev pub HeaderExact : Type 0
HeaderExact = (rate channels n : ℕ) (out : List ℕ) → Exact (WavHeaderCall rate channels n out)

-- a WAV file's header of any kind: `wave_header_exact`
abbrev pub WaveHeaderExact : Type 0
WaveHeaderExact = (format rate channels type n : ℕ) (out told : List ℕ) → Exact (λ (m : List ℕ × List ℕ). KindHeaderCall format rate channels type n out m.0 told m.1)

-- an upload by its beginning and length, where there is a file with them: `upload_header_exact`
abbrev pub UploadHeaderExact : Type 0
UploadHeaderExact = (head : List ℕ) (n : ℕ) (place file : List ℕ) → Bytes file → HeadOf file head n → Exact (GiveUpHeaderCall head n place)
