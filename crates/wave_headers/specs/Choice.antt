-- Which kind of header a file gets, and which files there are.
use Rattle.std.specs.Prelude.{List, [], ◌∷◌, Bool, true, not, cond, ◌&&◌, ℕ, ◌*◌, ◌%◌, eqb, leb, length}
use Rattle.reference.specs.Refusals.{Place, place}
use Rattle.wav_header.specs.Header.{sample_bytes}
use Rattle.wave_headers.specs.Speakers.{loudspeakers}
use Rattle.wave_headers.specs.Headers.{riff_size}
use Rattle.wave_headers.specs.declared.HeaderKind.{HeaderKind}
use Rattle.wave_headers.specs.declared.HeaderKind.TheVariants.{Plain, Extensible, Rf64, Rf64Extensible}
use Rattle.wave_headers.specs.declared.Format.{Format}
use Rattle.wave_headers.specs.declared.Format.TheVariants as format

-- the largest size that a kind's header tells: in four bytes, in eight
abbrev pub most_of_kind : HeaderKind → ℕ
most_of_kind Plain = 4294967295
most_of_kind Extensible = 4294967295
most_of_kind Rf64 = 18446744073709551615
most_of_kind Rf64Extensible = 18446744073709551615

-- a kind's header tells n bytes of data
unfoldable pub holds : HeaderKind → ℕ → Bool
holds kind n = leb (riff_size kind n) (most_of_kind kind)

-- of so many channels: one or two need no loudspeakers named
unfoldable pub short : ℕ → HeaderKind
short channels = cond (leb channels 2) Plain Extensible

unfoldable pub long : ℕ → HeaderKind
long channels = cond (leb channels 2) Rf64 Rf64Extensible

-- what is asked for: the header that holds the data, the plain one, or RF64
unfoldable pub kind_of : Format → ℕ → ℕ → HeaderKind
kind_of format.Auto channels n = cond (holds (short channels) n) (short channels) (long channels)
kind_of format.Wav channels n = Plain
kind_of format.Rf64 channels n = long channels

-- the plain header tells one or two channels
abbrev pub few_for : Format → ℕ → Bool
few_for format.Auto channels = true
few_for format.Wav channels = leb channels 2
few_for format.Rf64 channels = true

-- a loudspeaker for each channel
unfoldable pub placed : ℕ → ℕ → Bool
placed channels type = leb 1 channels && eqb channels (length (loudspeakers type))

-- whole samples of all channels
unfoldable pub whole_samples : ℕ → ℕ → Bool
whole_samples channels n = eqb (n % (sample_bytes * channels)) 0

-- there is a file in this format, of these channels of a type, with so many bytes of data
unfoldable pub writable : Format → ℕ → ℕ → ℕ → Bool
writable asked channels type n = placed channels type && (whole_samples channels n && (few_for asked channels && holds (kind_of asked channels n) n))

-- 12: there is none
unfoldable pub kind_places : Format → ℕ → ℕ → ℕ → List Place
kind_places asked channels type n = place (not (writable asked channels type n)) 12 [] ∷ []
