-- A DSF file, as Sony's document lays it out: what stands where, what is refused, and the frames that it holds.
use Rattle.std.specs.Prelude.{List, [], ◌∷◌, ◌++◌, Bool, true, false, cond, not, ◌&&◌, ◌||◌, ℕ, ◌+◌, ◌*◌, ◌-◌, ◌/◌, ◌%◌, ◌^◌, eqb, ltb, leb, length, get_or}
use Rattle.std.specs.Prelude.{drop}
use Rattle.text.specs.Text.{text}
use Rattle.text.specs.Bytes.{number_at, bytes}
use Rattle.numbers.specs.Lists.{tabulate, total}
use Rattle.reference.specs.Frames.{frame_bytes, frame_length, idle}
use Rattle.reference.specs.Refusals.{Place, place, decide, is_accepted, number, lent_length}

-- ---- the fields that the document fixes

-- a field: where it stands, and what its bytes may be
pub record Field : Type 0 where
  pub start : ℕ
  pub values : List (List ℕ)

abbrev pub one_of : ℕ → List (List ℕ) → Field
one_of start values = record { start = start; values = values }

abbrev pub fixed : ℕ → List ℕ → Field
fixed start value = one_of start (value ∷ [])

-- a channel type with its channels
abbrev pub pair : ℕ → ℕ → List ℕ
pair type channels = bytes 4 type ++ bytes 4 channels

unfoldable pub pairs : Field
pairs = one_of 48 (pair 1 1 ∷ pair 2 2 ∷ pair 3 3 ∷ pair 4 4 ∷ pair 5 4 ∷ pair 6 5 ∷ pair 7 6 ∷ [])

-- bits per sample: 1 is lowest bit first, 8 highest first
unfoldable pub orders : Field
orders = one_of 60 (bytes 4 1 ∷ bytes 4 8 ∷ [])

-- the fields whose breach is refused 9
unfoldable pub layout : List Field
layout =
    fixed 0 (text "DSD ")
    ∷ fixed 4 (bytes 8 28)
    ∷ fixed 28 (text "fmt ")
    ∷ fixed 32 (bytes 8 52)
    -- version, format
    ∷ fixed 40 (bytes 4 1)
    ∷ fixed 44 (bytes 4 0)
    ∷ pairs
    ∷ orders
    -- block size, reserved
    ∷ fixed 72 (bytes 4 4096)
    ∷ fixed 76 (bytes 4 0)
    ∷ fixed 80 (text "data")
    ∷ []

-- the sampling frequency: a file with another is refused 10
unfoldable pub frequency : Field
frequency = fixed 56 (bytes 4 2822400)

-- two lists are equal as far as both go
unfoldable pub alike : List ℕ → List ℕ → Bool
alike [] ys = true
alike (x ∷ xs) [] = true
alike (x ∷ xs) (y ∷ ys) = eqb x y && alike xs ys

unfoldable pub any : {A : Type 0} → (A → Bool) → List A → Bool
any f [] = false
any f (x ∷ xs) = f x || any f xs

unfoldable pub all : {A : Type 0} → (A → Bool) → List A → Bool
all f [] = true
all f (x ∷ xs) = f x && all f xs

-- a file has one of a field's values, as far as the file goes: a field past its end fits, so `places_at` asks for 92
-- bytes first
unfoldable pub fits : List ℕ → Field → Bool
fits file f = any (alike (drop f.start file)) f.values

-- ---- the fields that vary

module _ (file : List ℕ) where
  unfoldable pub stated_length : ℕ
  stated_length = number_at file 12 8

  unfoldable pub channel_type : ℕ
  channel_type = number_at file 48 4

  unfoldable pub channels : ℕ
  channels = number_at file 52 4

  unfoldable pub bits_per_sample : ℕ
  bits_per_sample = number_at file 60 4

  -- of one channel
  unfoldable pub sample_count : ℕ
  sample_count = number_at file 64 8

  unfoldable pub data_size : ℕ
  data_size = number_at file 84 8

-- ---- the data

abbrev pub block : ℕ
block = 4096

-- the whole blocks that a channel of so many bytes needs
unfoldable pub blocks : ℕ → ℕ
blocks n = (n + 4095) / block

-- the data's bytes, of so many channels with so many samples
unfoldable pub data_bytes : ℕ → ℕ → ℕ
data_bytes sample_count channels = blocks (sample_count / 8) * block * channels

-- where byte q of channel c stands in the data: the channels' blocks in turn
unfoldable pub data_place : ℕ → ℕ → ℕ → ℕ
data_place channels c q = (q / block * channels + c) * block + q % block

-- ---- frames and refusals

-- the frames that so many samples of a channel make, the last perhaps short
unfoldable pub frames_in : ℕ → ℕ
frames_in sample_count = (sample_count / 8 + 4703) / frame_bytes

module _ (file : List ℕ) where
  -- the data's bytes that the sample count needs
  unfoldable pub needed : ℕ
  needed = data_bytes (sample_count file) (channels file)

  unfoldable pub frames : ℕ
  frames = frames_in (sample_count file)

  -- the sampling frequency, and whole bytes of samples
  abbrev pub right_format : Bool
  right_format = fits file frequency && eqb (sample_count file % 8) 0

  -- of a file of n bytes: the length that it states, the data chunk's size, and that it holds that chunk
  abbrev pub right_sizes : ℕ → Bool
  right_sizes n = eqb (stated_length file) n && (eqb (data_size file) (12 + needed) && leb (80 + data_size file) n)

  -- a file of n bytes: 9, then 10, then 11. Only its first 92 bytes and n are asked for
  unfoldable pub places_at : ℕ → List Place
  places_at n =
      place (not (leb 92 n && all (fits file) layout)) 9 []
      ∷ place (not right_format) 10 []
      ∷ place (not (right_sizes n)) 11 []
      ∷ []

  unfoldable pub file_places : List Place
  file_places = places_at (length file)

  unfoldable pub accepts : Bool
  accepts = is_accepted (decide file_places)

  -- an asked frame, into a buffer of so many bytes
  unfoldable pub frame_places : ℕ → ℕ → List Place
  frame_places f buffer =
      file_places
      ++ (place (leb frames f) 5 (number f ∷ [])
      ∷ lent_length 7 buffer (frame_length (channels file))
      ∷ [])

-- ---- bits

-- a byte's bits in the other order
unfoldable pub turned : ℕ → ℕ
turned x = total (λ i. x / 2 ^ i % 2 * 2 ^ (7 - i)) 0 8

-- a byte of the file in our bit order, highest first
unfoldable pub our_byte : ℕ → ℕ → ℕ
our_byte bits x = cond (eqb bits 1) (turned x) x

-- ---- frames in our layout, of data whose byte j is `read j`
module _ (read : ℕ → ℕ) (channels bits sample_count : ℕ) where
  -- byte q of channel c, and idle past the last sample
  unfoldable pub sample_byte : ℕ → ℕ → ℕ
  sample_byte c q = cond (ltb q (sample_count / 8)) (our_byte bits (read (data_place channels c q))) idle

  -- byte j of all channels in turn: of channel j % channels its byte j / channels
  unfoldable pub turn_byte : ℕ → ℕ
  turn_byte j = sample_byte (j % channels) (j / channels)

  -- frame f: byte p of channel c at p × channels + c
  unfoldable pub data_frame : ℕ → List ℕ
  data_frame f = tabulate turn_byte (f * frame_length channels) (frame_length channels)

module _ (file : List ℕ) where
  -- byte j of the data
  abbrev pub file_data : ℕ → ℕ
  file_data j = get_or file (92 + j) 0

  abbrev pub file_frame : ℕ → List ℕ
  file_frame = data_frame file_data (channels file) (bits_per_sample file) (sample_count file)

-- ---- samples

-- sample t of a channel whose byte t / 8 is x: bits count from the lowest, or from the highest as in our layout
unfoldable pub sample_from_lowest : ℕ → ℕ → ℕ
sample_from_lowest t x = x / 2 ^ (t % 8) % 2

unfoldable pub sample_from_highest : ℕ → ℕ → ℕ
sample_from_highest t x = x / 2 ^ (7 - t % 8) % 2

-- sample t of channel c, as the document reads it off the file
unfoldable pub file_sample : List ℕ → ℕ → ℕ → ℕ
file_sample file c t =
    let x = file_data file (data_place (channels file) c (t / 8)) in
    cond (eqb (bits_per_sample file) 1) (sample_from_lowest t x) (sample_from_highest t x)
