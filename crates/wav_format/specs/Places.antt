-- Where the reader and the second entry turn a file down. Refusal 12 carries nothing.
use Rattle.std.specs.Prelude.{List, [], ◌∷◌, Bool, not, ◌||◌, ℕ, ◌+◌, length}
use Rattle.reference.specs.Refusals.{Place, place, lent_length}
use Rattle.reference.specs.declared.PcmRate.{PcmRate}
use Rattle.reference.specs.declared.PcmRate.TheVariants.{Hz88200, Hz176400, Hz352800}
use Rattle.wav_format.specs.Wav.{right_data, is_file}

-- ---- the reader

-- the file is one of a rate with one channel or with two
unfoldable pub at_rate : List ℕ → PcmRate → Bool
at_rate file rate = is_file file rate 1 || is_file file rate 2

unfoldable pub takes : List ℕ → Bool
takes file = at_rate file Hz88200 || (at_rate file Hz176400 || at_rate file Hz352800)

unfoldable pub read_places : List ℕ → List Place
read_places file = place (not (takes file)) 12 [] ∷ []

-- ---- the second entry, into an output of so many bytes

unfoldable pub write_places : PcmRate → ℕ → List ℕ → ℕ → List Place
write_places rate channels samples out =
    place (not (right_data rate channels (length samples))) 12 []
    ∷ lent_length 7 out (44 + length samples)
    ∷ []
