-- What each call with a converter promises: its answer, and what every lent list holds when it returns. A primed list
-- is one at exit.
use Rattle.std.specs.Prelude.{◌≡◌, List, [], ◌∷◌, Bool, ◌&&◌, ℕ, ltb, ℤ, Float}
use Rattle.reference.specs.Frames.{Run}
use Rattle.reference.specs.Scaling.{db_to_linear}
use Rattle.reference.specs.Settings.{converter_of, held_settings}
use Rattle.reference.specs.Output.{samples, per_frame_clips, s24le}
use Rattle.reference.specs.Refusals.{rack, desk, Decision, Place, decide, gain_places, opening_places, convert_run_places, convert_places, convert_frame_places}
use Rattle.reference.specs.Promises.{by_decision, if_lent}
use Rattle.reference.specs.Changes.{Change, change, with_wanted, change_places}
use Rattle.reference.specs.declared.Converter.{Converter}
use Rattle.wav_format.specs.Wav.{wav_file}
use Rattle.wav_checks.specs.Places.{wav_places}
use Rattle.codes.specs.Codes.{known_rate, rate_of, known_cutoff, cutoff_of}
use Rattle.codes.specs.Told.{ToldDecibels, ToldWhole}
use Rattle.codes.specs.Calls.{CCall}
use Rattle.c_converter.specs.Blocks.{CConverter, known_numbers, gain_of, settings_of, held_converter, with_stored, with_changed, gain_floats, Input, input_run, there_counts}
use Rattle.c_stats.specs.Conversions.{Results, ConversionDone}
use Rattle.c_calls.specs.declared.conversions.ToSamples.{ToSamples}
use Rattle.c_calls.specs.declared.conversions.ToSamples.TheVariants as samples_of
use Rattle.c_calls.specs.declared.conversions.ToBytes.{ToBytes}
use Rattle.c_calls.specs.declared.conversions.ToBytes.TheVariants as bytes_of

-- ---- the gain call: d is what it decides. Nothing is unclear

pub record GainDone (d : Decision) (db : Float) (gain gain' decibels' : List Float) (answer : ℕ) : Type 0 where
  pub told : ToldDecibels d answer decibels'
  pub written : gain' ≡ by_decision d (db ∷ db_to_linear db ∷ []) gain

abbrev pub GainCall : Float → List Float → List Float → List Float → ℕ → Type 0
GainCall db = GainDone (decide (gain_places db)) db

-- ---- opening: what the converter stores is written if it is accepted

pub record OpenDone (d : Decision) (b : CConverter) (numbers' data' : List ℕ) (decibels' : List Float) (answer : ℕ) : Type 0 where
  pub told : ToldWhole d answer data' decibels'
  pub written : numbers' ≡ by_decision d (with_stored (converter_of (settings_of b)) b.numbers) b.numbers

abbrev pub OpenCall : CConverter → List ℕ → List ℕ → List ℕ → List Float → List Float → ℕ → Type 0
OpenCall b numbers' data₀ data' decibels decibels' answer =
    CCall (known_numbers b.numbers) answer
    ((numbers' ≡ b.numbers) × (data' ≡ data₀) × (decibels' ≡ decibels))
    (OpenDone (decide (opening_places (settings_of b))) b numbers' data' decibels' answer)

-- ---- a change: the new converter takes the old one's place if it is accepted

-- what a change wants, as numbers
pub record CWanted : Type 0 where
  pub rate : ℕ
  pub cutoff : ℕ
  pub gain : List Float

abbrev pub c_wanted : ℕ → ℕ → List Float → CWanted
c_wanted r c g = record { rate = r; cutoff = c; gain = g }

abbrev pub known_wanted : CWanted → Bool
known_wanted w = known_rate w.rate && known_cutoff w.cutoff

abbrev pub change_of : CWanted → Change
change_of w = change (rate_of w.rate) (cutoff_of w.cutoff) (gain_of w.gain)

-- the converter that is given if it is accepted
abbrev pub new_converter : CConverter → CWanted → Converter
new_converter b w = converter_of (with_wanted (held_settings (held_converter b)) (change_of w))

pub record ChangeDone (d : Decision) (b : CConverter) (conv' : Converter) (numbers' : List ℕ) (gain' : List Float) (data' : List ℕ) (decibels' : List Float) (answer : ℕ) : Type 0 where
  pub told : ToldWhole d answer data' decibels'
  pub written : numbers' ≡ by_decision d (with_changed conv' b.numbers) b.numbers
  pub amplified : gain' ≡ by_decision d (gain_floats conv'.gain) b.gain

abbrev pub ChangeCall : CConverter → CWanted → List ℕ → List Float → List ℕ → List ℕ → List Float → List Float → ℕ → Type 0
ChangeCall b w numbers' gain' data₀ data' decibels decibels' answer =
    CCall (known_wanted w && known_numbers b.numbers) answer
    ((numbers' ≡ b.numbers) × (gain' ≡ b.gain) × (data' ≡ data₀) × (decibels' ≡ decibels))
    (ChangeDone (decide (change_places (held_converter b) (change_of w))) b (new_converter b w) numbers' gain' data' decibels' answer)

-- ---- conversions

-- to 32-bit samples: what is tried, of a run and of one frame
unfoldable pub samples_places : ToSamples → Converter → Run → List ℤ → List Place
samples_places samples_of.Run = convert_run_places
samples_places samples_of.Frame = convert_frame_places

pub record SamplesDone (d : Decision) (conv : Converter) (r : Run) (out out' : List ℤ) (old new : Results) (answer : ℕ) : Type 0 where
  pub done : ConversionDone d conv r old new answer
  pub written : out' ≡ by_decision d (samples conv r) out

-- a presence of 4 or more is not understood
abbrev pub SamplesCall : ToSamples → CConverter → Input → List ℤ → List ℤ → Results → Results → ℕ → Type 0
SamplesCall kind b i out out' old new answer =
    let conv = held_converter b in
    CCall (known_numbers b.numbers && ltb i.presence 4) answer
    ((out' ≡ out) × (new ≡ old))
    (SamplesDone (decide (samples_places kind conv (input_run i) out)) conv (input_run i) out out' old new answer)

-- to bytes: what is tried, for the rack, for the desk and as a WAV file, and what is written
unfoldable pub bytes_places : ToBytes → Converter → Run → List ℕ → Bool → List ℕ → List Place
bytes_places bytes_of.Rack = convert_places rack
bytes_places bytes_of.Desk = convert_places desk
bytes_places bytes_of.Wav = wav_places

unfoldable pub bytes_written : ToBytes → Converter → Run → List ℕ
bytes_written bytes_of.Rack conv r = s24le (samples conv r)
bytes_written bytes_of.Desk conv r = s24le (samples conv r)
bytes_written bytes_of.Wav conv r = wav_file conv.rate conv.channels (s24le (samples conv r))

pub record BytesDone (d : Decision) (kind : ToBytes) (conv : Converter) (r : Run) (lent : Bool) (out counts out' counts' : List ℕ) (old new : Results) (answer : ℕ) : Type 0 where
  pub done : ConversionDone d conv r old new answer
  pub written : out' ≡ by_decision d (bytes_written kind conv r) out
  pub per_frame : counts' ≡ by_decision d (if_lent lent (per_frame_clips conv r) counts) counts

-- a presence of 8 or more is not understood
abbrev pub BytesCall : ToBytes → CConverter → Input → List ℕ → List ℕ → List ℕ → List ℕ → Results → Results → ℕ → Type 0
BytesCall kind b i out counts out' counts' old new answer =
    let conv = held_converter b in
    let lent = there_counts i.presence in
    CCall (known_numbers b.numbers && ltb i.presence 8) answer
    ((out' ≡ out) × (counts' ≡ counts) × (new ≡ old))
    (BytesDone (decide (bytes_places kind conv (input_run i) out lent counts)) kind conv (input_run i) lent out counts out' counts' old new answer)
