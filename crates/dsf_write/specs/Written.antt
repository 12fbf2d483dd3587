-- A DSF file written from frames: lowest bit first, zero bytes to the end of the last blocks, no metadata.
use Rattle.std.specs.Prelude.{◌≡◌, List, [], ◌∷◌, ◌++◌, Result, IfOk, cond, not, ◌&&◌, ℕ, ◌+◌, ◌*◌, ◌/◌, ◌%◌, ◌≤◌, ◌<◌, T, eqb, ltb, leb, length, get_or}
use Rattle.numbers.specs.Lists.{tabulate}
use Rattle.reference.specs.Frames.{frame_count, frame_bytes, frame_length}
use Rattle.reference.specs.Refusals.{Place, place, decide, decision, number, lent_length, most}
use Rattle.reference.specs.Promises.{by_decision}
use Rattle.reference.specs.declared.PcmError.{PcmError}
use Rattle.reference.specs.declared.Limit.TheVariants as limit
use Rattle.text.specs.Bytes.{number_at, bytes}
use Rattle.dsf.specs.Dsf.{pair, block, blocks, data_bytes, data_place, channel_type, channels, bits_per_sample, sample_count, needed, accepts, frames, turned, turn_byte, file_data}
use Rattle.dsf.specs.Headers.{header_with}

-- the channel type that is written for 1 to 6 channels: 1, 2, 3, 4, 6, 7
unfoldable pub type_of : ℕ → ℕ
type_of channels = cond (leb channels 4) channels (channels + 1)

-- byte j of the data: of which channel, and which of its bytes
unfoldable pub data_channel : ℕ → ℕ → ℕ
data_channel channels j = j / block % channels

unfoldable pub data_byte : ℕ → ℕ → ℕ
data_byte channels j = j / block / channels * block + j % block

module _ (channels : ℕ) (bytes_in : List ℕ) where
  -- bytes of one channel
  unfoldable pub written_channel : ℕ
  written_channel = frame_count channels bytes_in * frame_bytes

  unfoldable pub written_data : ℕ
  written_data = data_bytes (8 * written_channel) channels

  unfoldable pub written_byte : ℕ → ℕ
  written_byte j =
      cond (ltb (data_byte channels j) written_channel) (turned (get_or bytes_in (data_byte channels j * channels + data_channel channels j) 0)) 0

  -- the file of these frames
  unfoldable pub written : List ℕ
  written =
      header_with (bytes 8 (92 + written_data)) (bytes 8 0) (pair (type_of channels) channels) 1 (bytes 8 (8 * written_channel)) (bytes 8 (12 + written_data))
      ++ tabulate written_byte 0 written_data

-- its parts: the 92 bytes before the data, of n bytes of frames, and the data
unfoldable pub head : ℕ → ℕ → List ℕ
head channels n =
    let bytes_of = n / frame_length channels * frame_bytes in
    let size = data_bytes (8 * bytes_of) channels in
    header_with (bytes 8 (92 + size)) (bytes 8 0) (pair (type_of channels) channels) 1 (bytes 8 (8 * bytes_of)) (bytes 8 (12 + size))

unfoldable pub laid_out : ℕ → List ℕ → List ℕ
laid_out channels bytes_in = tabulate (written_byte channels bytes_in) 0 (written_data channels bytes_in)

-- the length of the file of n bytes of frames
unfoldable pub file_length : ℕ → ℕ → ℕ
file_length channels n = 92 + data_bytes (8 * (n / frame_length channels * frame_bytes)) channels

-- channels and n bytes of frames are refused as in a conversion
unfoldable pub length_places : ℕ → ℕ → List Place
length_places channels n =
    place (not (leb 1 channels && leb channels 6)) 1 (number channels ∷ [])
    ∷ place (not (eqb (n % frame_length channels) 0)) 4 (number n ∷ number 0 ∷ [])
    ∷ place (ltb (most limit.Rack) (n / frame_length channels)) 5 (number (n / frame_length channels) ∷ [])
    ∷ []

-- then an output of another length
unfoldable pub dsf_write_places : ℕ → List ℕ → ℕ → List Place
dsf_write_places channels bytes_in out = length_places channels (length bytes_in) ++ (lent_length 7 out (file_length channels (length bytes_in)) ∷ [])

-- then an output for the data alone of another length
unfoldable pub laid_places : ℕ → List ℕ → ℕ → List Place
laid_places channels bytes_in out = length_places channels (length bytes_in) ++ (lent_length 7 out (written_data channels bytes_in) ∷ [])

-- ---- what the writer's calls promise

-- of the length needed
pub record LengthPromise (channels n : ℕ) (answer : Result ℕ PcmError) : Type 0 where
  pub decided : decision answer ≡ decide (length_places channels n)
  pub sized : IfOk answer (λ told. told ≡ file_length channels n)

-- `out` is the output at entry, `out'` at exit
pub record WritePromise (channels : ℕ) (bytes_in out out' : List ℕ) (answer : Result (Unit {0}) PcmError) : Type 0 where
  pub decided : decision answer ≡ decide (dsf_write_places channels bytes_in (length out))
  pub written_out : out' ≡ by_decision (decide (dsf_write_places channels bytes_in (length out))) (written channels bytes_in) out

-- of the header of so many bytes of frames
pub record HeadPromise (channels n : ℕ) (out out' : List ℕ) (answer : Result (Unit {0}) PcmError) : Type 0 where
  pub decided : decision answer ≡ decide (length_places channels n)
  pub written_out : out' ≡ by_decision (decide (length_places channels n)) (head channels n) out

-- of the data of some frames
pub record LaidPromise (channels : ℕ) (bytes_in out out' : List ℕ) (answer : Result (Unit {0}) PcmError) : Type 0 where
  pub decided : decision answer ≡ decide (laid_places channels bytes_in (length out))
  pub written_out : out' ≡ by_decision (decide (laid_places channels bytes_in (length out))) (laid_out channels bytes_in) out

-- ---- what the theorems speak of (proofs/Written, proofs/Rewritten)

-- the frames that a file holds, joined
unfoldable pub all_frames : List ℕ → List ℕ
all_frames file = tabulate (turn_byte (file_data file) (channels file) (bits_per_sample file) (sample_count file)) 0 (frames file * frame_length (channels file))

-- a file of exactly the kind that is written
pub record Plain (file : List ℕ) : Type 0 where
  pub accepted : T (accepts file)
  pub lowest_first : bits_per_sample file ≡ 1
  pub no_pointer : number_at file 20 8 ≡ 0
  pub written_type : channel_type file ≡ type_of (channels file)
  pub no_more : length file ≡ 92 + needed file
  pub whole_frames : sample_count file / 8 ≡ frames file * frame_bytes
  pub few : frames file ≤ most limit.Rack
  pub zero_padded : (c q : ℕ) → c < channels file → sample_count file / 8 ≤ q → q < blocks (sample_count file / 8) * block → file_data file (data_place (channels file) c q) ≡ 0

-- frames that can be written: 1 to 6 channels, 0 to 540,000 whole frames
pub record Writable (channels : ℕ) (bytes_in : List ℕ) : Type 0 where
  pub one : 1 ≤ channels
  pub six : channels ≤ 6
  pub whole : length bytes_in ≡ frame_count channels bytes_in * frame_length channels
  pub few : frame_count channels bytes_in ≤ most limit.Rack
