-- The header's three parts.
use Rattle.std.specs.Prelude.{List, [], ◌∷◌, ℕ, ◌*◌}
use Rattle.text.specs.Text.{text, joined}
use Rattle.text.specs.Bytes.{bytes}
use Rattle.wav_header.specs.Header.{sample_bytes}

unfoldable pub riff : ℕ → List ℕ
riff size = joined (text "RIFF" ∷ bytes 4 size ∷ text "WAVE" ∷ [])

unfoldable pub format_part : ℕ → ℕ → List ℕ
format_part rate channels =
    joined
    (text "fmt " ∷ bytes 4 16 ∷ bytes 2 1 ∷ bytes 2 channels ∷ bytes 4 rate ∷ bytes 4 (rate * (sample_bytes * channels)) ∷ bytes 2 (sample_bytes * channels) ∷ bytes 2 24 ∷ [])

unfoldable pub data_head : ℕ → List ℕ
data_head n = joined (text "data" ∷ bytes 4 n ∷ [])
