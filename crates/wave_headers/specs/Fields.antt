-- What a reader finds in a header: each number as it was meant, so that none is cut off by its field.
use Rattle.std.specs.Prelude.{◌≡◌, List, ℕ, ◌+◌, ◌-◌, ◌*◌}
use Rattle.text.specs.Bytes.{number_at}
use Rattle.wav_header.specs.Header.{sample_bytes}
use Rattle.wave_headers.specs.Headers.{header_length, riff_size, elsewhere}
use Rattle.wave_headers.specs.declared.HeaderKind.{HeaderKind}
use Rattle.wave_headers.specs.declared.HeaderKind.TheVariants.{Plain, Extensible, Rf64, Rf64Extensible}

-- where the format's chunk begins
abbrev pub format_at : HeaderKind → ℕ
format_at Plain = 12
format_at Extensible = 12
format_at Rf64 = 48
format_at Rf64Extensible = 48

-- the format's chunk: channels, samples a second, bytes a second, bytes of a sample of all channels, bits
pub record FormatAt (h : List ℕ) (at rate channels : ℕ) : Type 0 where
  pub channels_told : number_at h (at + 10) 2 ≡ channels
  pub rate_told : number_at h (at + 12) 4 ≡ rate
  pub second_told : number_at h (at + 16) 4 ≡ rate * (sample_bytes * channels)
  pub sample_told : number_at h (at + 20) 2 ≡ sample_bytes * channels
  pub bits_told : number_at h (at + 22) 2 ≡ 24

-- and what the longer one adds: its size, the bits that count, the loudspeakers
pub record SpeakersAt (h : List ℕ) (at speakers : ℕ) : Type 0 where
  pub added_told : number_at h (at + 24) 2 ≡ 22
  pub valid_told : number_at h (at + 26) 2 ≡ 24
  pub mask_told : number_at h (at + 28) 4 ≡ speakers

-- sizes in fields of four bytes, the data's at the header's end
pub record Sizes (h : List ℕ) (kind : HeaderKind) (n : ℕ) : Type 0 where
  pub all_told : number_at h 4 4 ≡ riff_size kind n
  pub data_told : number_at h (header_length kind - 4) 4 ≡ n

-- sizes in `ds64`, and where the others would stand
pub record LongSizes (h : List ℕ) (kind : HeaderKind) (channels n : ℕ) : Type 0 where
  pub not_there : number_at h 4 4 ≡ elsewhere
  pub nor_there : number_at h (header_length kind - 4) 4 ≡ elsewhere
  pub all_told : number_at h 20 8 ≡ riff_size kind n
  pub data_told : number_at h 28 8 ≡ n
  -- of whole samples
  pub samples_told : (m : ℕ) → n ≡ m * (sample_bytes * channels) → number_at h 36 8 ≡ m
  pub table_told : number_at h 44 4 ≡ 0

-- all of a kind's sizes
abbrev pub SizesTold : HeaderKind → List ℕ → ℕ → ℕ → Type 0
SizesTold Plain h channels n = Sizes h Plain n
SizesTold Extensible h channels n = Sizes h Extensible n
SizesTold Rf64 h channels n = LongSizes h Rf64 channels n
SizesTold Rf64Extensible h channels n = LongSizes h Rf64Extensible channels n

-- and its loudspeakers, where it names some
abbrev pub SpeakersTold : HeaderKind → List ℕ → ℕ → Type 0
SpeakersTold Plain h speakers = Unit {0}
SpeakersTold Extensible h speakers = SpeakersAt h 12 speakers
SpeakersTold Rf64 h speakers = Unit {0}
SpeakersTold Rf64Extensible h speakers = SpeakersAt h 48 speakers

pub record Found (kind : HeaderKind) (h : List ℕ) (rate channels speakers n : ℕ) : Type 0 where
  pub formatted : FormatAt h (format_at kind) rate channels
  pub speaking : SpeakersTold kind h speakers
  pub sized : SizesTold kind h channels n
