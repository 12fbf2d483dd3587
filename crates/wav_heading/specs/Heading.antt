-- The header of a plain WAV file alone, of so many bytes of data: 12, then 7.
use Rattle.std.specs.Prelude.{◌≡◌, Result, List, [], ◌∷◌, ℕ, not, length}
use Rattle.reference.specs.Codes.{hertz}
use Rattle.reference.specs.Refusals.{Place, place, decide, decision, lent_length}
use Rattle.reference.specs.Promises.{by_decision}
use Rattle.reference.specs.declared.PcmRate.{PcmRate}
use Rattle.reference.specs.declared.PcmError.{PcmError}
use Rattle.wav_header.specs.Header.{header}
use Rattle.wav_format.specs.Wav.{right_data}

-- no file has these channels and so much data: other than one or two channels, no whole frames, or too many
unfoldable pub no_such_file : PcmRate → ℕ → ℕ → Place
no_such_file rate n bytes = place (not (right_data rate n bytes)) 12 []

unfoldable pub head_places : PcmRate → ℕ → ℕ → ℕ → List Place
head_places rate n bytes room = no_such_file rate n bytes ∷ lent_length 7 room 44 ∷ []

pub record HeaderPromise (rate : PcmRate) (n bytes : ℕ) (out out' : List ℕ) (answer : Result (Unit {0}) PcmError) : Type 0 where
  pub decided : decision answer ≡ decide (head_places rate n bytes (length out))
  pub written : out' ≡ by_decision (decide (head_places rate n bytes (length out))) (header (hertz rate) n bytes) out
