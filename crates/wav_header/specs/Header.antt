-- The header of a plain WAV file of 24-bit samples.
use Rattle.std.specs.Prelude.{List, [], ◌∷◌, ℕ, ◌+◌, ◌*◌}
use Rattle.text.specs.Text.{text, joined}
use Rattle.text.specs.Bytes.{bytes}

-- bytes of a sample of one channel
abbrev pub sample_bytes : ℕ
sample_bytes = 3

-- the header's fields in turn: samples a second, channels, bytes of data
unfoldable pub fields : ℕ → ℕ → ℕ → List (List ℕ)
fields rate channels n =
    text "RIFF" ∷ bytes 4 (36 + n) ∷ text "WAVE"
    -- the format's size, tag 1, channels, rate, bytes a second, bytes of a sample of all channels, bits
    ∷ text "fmt " ∷ bytes 4 16 ∷ bytes 2 1 ∷ bytes 2 channels ∷ bytes 4 rate ∷ bytes 4 (rate * (sample_bytes * channels)) ∷ bytes 2 (sample_bytes * channels) ∷ bytes 2 24
    ∷ text "data" ∷ bytes 4 n ∷ []

unfoldable pub header : ℕ → ℕ → ℕ → List ℕ
header rate channels n = joined (fields rate channels n)

-- the most data that the header's size field, 36 more, can tell
abbrev pub most_data : ℕ
most_data = 4294967259
