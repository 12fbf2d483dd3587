-- What is proved of the headers, in proofs/Laws: `plain_file`, `plain_header`, `length_header`, `told_size`, `found`,
-- `accepted_auto`, `accepted_rf64`, `wav_exactly`, `auto_kind`.
use Rattle.std.specs.Prelude.{◌≡◌, List, [], Bool, true, cond, ◌&&◌, ℕ, ◌+◌, ◌*◌, ◌%◌, ◌≤◌, leb, length}
use Rattle.reference.specs.Codes.{hertz}
use Rattle.reference.specs.Refusals.{decide, accepted, refused}
use Rattle.reference.specs.declared.PcmRate.{PcmRate}
use Rattle.wav_header.specs.Header as wav
use Rattle.wav_header.specs.Header.{sample_bytes}
use Rattle.wav_format.specs.Wav.{wav_file}
use Rattle.wave_headers.specs.Speakers.{mask}
use Rattle.wave_headers.specs.Headers.{kind_header, header_length, riff_size, wave_file}
use Rattle.wave_headers.specs.Choice.{placed, kind_of, kind_places}
use Rattle.wave_headers.specs.Fields.{Found}
use Rattle.wave_headers.specs.declared.HeaderKind.{HeaderKind}
use Rattle.wave_headers.specs.declared.HeaderKind.TheVariants.{Plain, Extensible, Rf64, Rf64Extensible}
use Rattle.wave_headers.specs.declared.Format.{Format}
use Rattle.wave_headers.specs.declared.Format.TheVariants as format

-- the plain header of even data is wav_header's, and such a file is wav_format's
abbrev pub PlainHeader : Type 0
PlainHeader = (rate channels speakers n : ℕ) → n % 2 ≡ 0 → kind_header Plain rate channels speakers n ≡ wav.header rate channels n

abbrev pub PlainFile : Type 0
PlainFile =
    (rate : PcmRate) (channels type : ℕ) (data' : List ℕ) → length data' % 2 ≡ 0 → wave_file Plain rate channels type data' ≡ wav_file rate channels data'

-- a header has its kind's length
abbrev pub LengthHeader : Type 0
LengthHeader = (kind : HeaderKind) (rate channels speakers n : ℕ) → length (kind_header kind rate channels speakers n) ≡ header_length kind

-- the size that is told is that of all that follows the first eight bytes, and the file is even
abbrev pub ToldSize : Type 0
ToldSize =
    (kind : HeaderKind) (rate : PcmRate) (channels type : ℕ) (data' : List ℕ)
    → (8 + riff_size kind (length data') ≡ length (wave_file kind rate channels type data')) × (length (wave_file kind rate channels type data') % 2 ≡ 0)

-- a reader finds in every header that is written what was meant
abbrev pub AllFound : Type 0
AllFound =
    (asked : Format) (rate : PcmRate) (channels type n : ℕ) → decide (kind_places asked channels type n) ≡ accepted
    → Found (kind_of asked channels n) (kind_header (kind_of asked channels n) (hertz rate) channels (mask type) n) (hertz rate) channels (mask type) n

-- whole samples of all channels of a type have a header, as long as eight bytes tell their size
abbrev pub AutoAccepted : Type 0
AutoAccepted =
    (channels type m : ℕ) → placed channels type ≡ true → m * (sample_bytes * channels) ≤ 18446744073709551518
    → decide (kind_places format.Auto channels type (m * (sample_bytes * channels))) ≡ accepted

abbrev pub Rf64Accepted : Type 0
Rf64Accepted =
    (channels type m : ℕ) → placed channels type ≡ true → m * (sample_bytes * channels) ≤ 18446744073709551518
    → decide (kind_places format.Rf64 channels type (m * (sample_bytes * channels))) ≡ accepted

-- the plain one holds one or two channels, and what four bytes tell with header and pad; else it is refused 12
abbrev pub plain_takes : ℕ → ℕ → Bool
plain_takes channels n = leb channels 2 && leb n 4294967258

abbrev pub WavExactly : Type 0
WavExactly =
    (channels type m : ℕ) → placed channels type ≡ true → let n = m * (sample_bytes * channels) in
    decide (kind_places format.Wav channels type n) ≡ cond (plain_takes channels n) accepted (refused 12 [])

-- the header that `Auto` gives, in numbers
abbrev pub AutoKind : Type 0
AutoKind = (channels n : ℕ) → kind_of format.Auto channels n ≡ cond (leb channels 2) (cond (leb n 4294967258) Plain Rf64) (cond (leb n 4294967234) Extensible Rf64Extensible)
