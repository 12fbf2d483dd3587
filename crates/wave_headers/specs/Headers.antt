-- Headers of WAV files of 24-bit samples, of four kinds: the plain one, the one that names loudspeakers
-- (WAVE_FORMAT_EXTENSIBLE), and RF64 (EBU Tech 3306) with the format of either.
use Rattle.std.specs.Prelude.{List, [], ◌∷◌, ◌++◌, ℕ, ◌+◌, ◌-◌, ◌*◌, ◌/◌, ◌%◌, length, replicate}
use Rattle.text.specs.Text.{text, joined}
use Rattle.text.specs.Bytes.{bytes}
use Rattle.reference.specs.Codes.{hertz}
use Rattle.reference.specs.declared.PcmRate.{PcmRate}
use Rattle.wav_header.specs.Header.{sample_bytes}
use Rattle.wave_headers.specs.Speakers.{mask}
use Rattle.wave_headers.specs.declared.HeaderKind.{HeaderKind}
use Rattle.wave_headers.specs.declared.HeaderKind.TheVariants.{Plain, Extensible, Rf64, Rf64Extensible}

-- ---- sizes

-- bytes of a header: where the data begin
abbrev pub header_length : HeaderKind → ℕ
header_length Plain = 44
header_length Extensible = 68
header_length Rf64 = 80
header_length Rf64Extensible = 104

-- bytes behind n bytes of data, so that they are even
unfoldable pub pad : ℕ → ℕ
pad n = n % 2

-- all that follows the file's first eight bytes
unfoldable pub riff_size : HeaderKind → ℕ → ℕ
riff_size kind n = header_length kind - 8 + (n + pad n)

-- samples of one channel in n bytes of data
unfoldable pub sample_count : ℕ → ℕ → ℕ
sample_count channels n = n / (sample_bytes * channels)

-- in place of a size that `ds64` tells
abbrev pub elsewhere : ℕ
elsewhere = 4294967295

-- ---- the fields in turn

-- the file's chunk: the size of all that follows
unfoldable pub riff_fields : ℕ → List (List ℕ)
riff_fields size = text "RIFF" ∷ bytes 4 size ∷ text "WAVE" ∷ []

-- the same with `ds64`: its own size; the size of all that follows, the data's, samples of one channel; other chunks'
-- sizes, none
unfoldable pub rf64 : ℕ → ℕ → ℕ → List (List ℕ)
rf64 size n count =
    text "RF64" ∷ bytes 4 elsewhere ∷ text "WAVE"
    ∷ text "ds64" ∷ bytes 4 28 ∷ bytes 8 size ∷ bytes 8 n ∷ bytes 8 count ∷ bytes 4 0
    ∷ []

-- channels, rate, bytes a second, bytes of a sample of all channels, bits
unfoldable pub samples_told : ℕ → ℕ → List (List ℕ)
samples_told rate channels =
    bytes 2 channels ∷ bytes 4 rate ∷ bytes 4 (rate * (sample_bytes * channels)) ∷ bytes 2 (sample_bytes * channels) ∷ bytes 2 24 ∷ []

-- the format's chunk: its size, tag 1
unfoldable pub plain_format : ℕ → ℕ → List (List ℕ)
plain_format rate channels = text "fmt " ∷ bytes 4 16 ∷ bytes 2 1 ∷ samples_told rate channels

-- the sub-format of whole numbers, 00000001-0000-0010-8000-00AA00389B71
abbrev pub pcm : List ℕ
pcm = 1 ∷ 0 ∷ 0 ∷ 0 ∷ 0 ∷ 0 ∷ 16 ∷ 0 ∷ 128 ∷ 0 ∷ 0 ∷ 170 ∷ 0 ∷ 56 ∷ 155 ∷ 113 ∷ []

-- its size, tag 0xFFFE; then the size of what is added, the bits that count, the loudspeakers, the sub-format
unfoldable pub extensible_format : ℕ → ℕ → ℕ → List (List ℕ)
extensible_format rate channels speakers =
    text "fmt " ∷ bytes 4 40 ∷ bytes 2 65534 ∷ (samples_told rate channels ++ (bytes 2 22 ∷ bytes 2 24 ∷ bytes 4 speakers ∷ pcm ∷ []))

-- the head of the data's chunk
unfoldable pub data_fields : ℕ → List (List ℕ)
data_fields n = text "data" ∷ bytes 4 n ∷ []

-- samples a second, channels, the loudspeakers' mask, bytes of data
unfoldable pub kind_fields : HeaderKind → ℕ → ℕ → ℕ → ℕ → List (List ℕ)
kind_fields Plain rate channels speakers n = riff_fields (riff_size Plain n) ++ (plain_format rate channels ++ data_fields n)
kind_fields Extensible rate channels speakers n = riff_fields (riff_size Extensible n) ++ (extensible_format rate channels speakers ++ data_fields n)
kind_fields Rf64 rate channels speakers n = rf64 (riff_size Rf64 n) n (sample_count channels n) ++ (plain_format rate channels ++ data_fields elsewhere)
kind_fields Rf64Extensible rate channels speakers n =
    rf64 (riff_size Rf64Extensible n) n (sample_count channels n) ++ (extensible_format rate channels speakers ++ data_fields elsewhere)

unfoldable pub kind_header : HeaderKind → ℕ → ℕ → ℕ → ℕ → List ℕ
kind_header kind rate channels speakers n = joined (kind_fields kind rate channels speakers n)

-- ---- a file: header, data, and a zero byte behind odd data

-- what stands behind the header
unfoldable pub padded : List ℕ → List ℕ
padded data' = data' ++ replicate (pad (length data')) 0

-- of a rate, channels, a channel type and sample bytes
unfoldable pub wave_file : HeaderKind → PcmRate → ℕ → ℕ → List ℕ → List ℕ
wave_file kind rate channels type data' = kind_header kind (hertz rate) channels (mask type) (length data') ++ padded data'
