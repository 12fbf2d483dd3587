-- A converter as C holds it: three lists of fixed length. Each number is read as something, and is known if it is the
-- number of what it is read as.
use Rattle.std.specs.Prelude.{List, [], ◌∷◌, Bool, ◌&&◌, ℕ, ◌/◌, ◌%◌, Float, ℤ, get_or, set}
use Rattle.std.specs.Bool.{then_some}
use Rattle.std.specs.Float.{nan}
use Rattle.reference.specs.Codes.{hertz, cutoff_number}
use Rattle.reference.specs.Frames.{Run, run}
use Rattle.reference.specs.Settings.{filter_of}
use Rattle.reference.specs.declared.Gain.{Gain}
use Rattle.reference.specs.declared.Settings.{Settings}
use Rattle.reference.specs.declared.Converter.{Converter}
use Rattle.codes.specs.Codes.{rate_of, known_rate, cutoff_of, known_cutoff, known_channels, known_flag, flag}

-- ---- what is read

-- eight numbers, decibels and factor, and 117 taps. The numbers: rate, cutoff, channels, whether a filter of one's own
-- is given, how many taps it has; then what the converter stores, which are samples of a channel in a frame, the reach,
-- and bytes of a frame
pub record CConverter : Type 0 where
  pub numbers : List ℕ
  pub gain : List Float
  pub taps : List ℤ

abbrev pub converter_lists : List ℕ → List Float → List ℤ → CConverter
converter_lists n g t = record { numbers = n; gain = g; taps = t }

abbrev pub entry : List ℕ → ℕ → ℕ
entry n k = get_or n k 0

-- a known rate and cutoff, a byte of channels, and a flag
abbrev pub known_numbers : List ℕ → Bool
known_numbers n = known_rate (entry n 0) && (known_cutoff (entry n 1) && (known_channels (entry n 2) && known_flag (entry n 3)))

-- decibels and factor
abbrev pub gain_of : List Float → Gain
gain_of g = record { db = get_or g 0 nan; linear = get_or g 1 nan }

-- the settings that a block of known numbers stands for
unfoldable pub settings_of : CConverter → Settings
settings_of b =
    record {
      rate = rate_of (entry b.numbers 0);
      cutoff = cutoff_of (entry b.numbers 1);
      channels = entry b.numbers 2;
      gain = gain_of b.gain;
      filter = then_some (flag (entry b.numbers 3)) (record { taps = b.taps; count = entry b.numbers 4 });
    }

-- the converter that it stands for, its stored numbers as they are given
unfoldable pub held_converter : CConverter → Converter
held_converter b =
    let s = settings_of b in
    record {
      rate = s.rate;
      cutoff = s.cutoff;
      channels = s.channels;
      gain = s.gain;
      filter = filter_of s;
      samples_per_frame = entry b.numbers 5;
      reach = entry b.numbers 6;
      frame_length = entry b.numbers 7;
    }

-- ---- what is written

-- the numbers, with what a converter stores
abbrev pub with_stored : Converter → List ℕ → List ℕ
with_stored conv n = set (set (set n 5 conv.samples_per_frame) 6 conv.reach) 7 conv.frame_length

-- the numbers, with its rate and cutoff too
abbrev pub with_changed : Converter → List ℕ → List ℕ
with_changed conv n = with_stored conv (set (set n 0 (hertz conv.rate)) 1 (cutoff_number conv.cutoff))

-- decibels and factor
abbrev pub gain_floats : Gain → List Float
gain_floats g = g.db ∷ g.linear ∷ []

-- ---- a run, and what there is beside its frames: 1 the frame before, 2 the frame after, 4 a list of counts

pub record Input : Type 0 where
  pub presence : ℕ
  pub before : List ℕ
  pub frames : List ℕ
  pub after : List ℕ

abbrev pub input : ℕ → List ℕ → List ℕ → List ℕ → Input
input p b f a = record { presence = p; before = b; frames = f; after = a }

abbrev pub there_counts : ℕ → Bool
there_counts n = flag (n / 4)

abbrev pub input_run : Input → Run
input_run i = run (flag (i.presence % 2)) i.before i.frames (flag (i.presence / 2 % 2)) i.after
