-- What the calls over WAV files promise. Nothing is unclear. A primed list is one at exit.
use Rattle.std.specs.Prelude.{◌≡◌, Result, List, [], ◌∷◌, not, ℕ, length}
use Rattle.reference.specs.Codes.{hertz}
use Rattle.reference.specs.Refusals.{Place, place, Decision, decision, decide, refusal_number}
use Rattle.reference.specs.Promises.{by_decision}
use Rattle.reference.specs.declared.PcmError.{PcmError}
use Rattle.wav_header.specs.Header as wav
use Rattle.wav_format.specs.Wav.{wav_file}
use Rattle.wav_format.specs.Places.{write_places}
use Rattle.wav_format.specs.Promises.{ReadPromise, file_samples}
use Rattle.wav_format.specs.declared.WavFormat.{WavFormat}
use Rattle.wav_heading.specs.Heading.{head_places}
use Rattle.codes.specs.Codes.{rate_of, known_rate}
use Rattle.codes.specs.Told.{if_ok, ToldWritten}

-- ---- the reader

-- rate, channels, and where the sample bytes begin and how many there are, of a file that was taken
abbrev pub format_numbers : ℕ → WavFormat → List ℕ
format_numbers n f = hertz f.rate ∷ f.channels ∷ 44 ∷ n ∷ []

pub record WavReadCall (file told told' : List ℕ) (answer : ℕ) : Type 0 where
  pub made : Result WavFormat PcmError
  pub promise : ReadPromise file made
  pub number : answer ≡ refusal_number (decision made)
  pub written : told' ≡ if_ok (format_numbers (length (file_samples file))) made told

-- ---- a file from sample bytes, and its header: a rate that is none of the three is refused 12, before all else

abbrev pub rate_place : ℕ → Place
rate_place rate = place (not (known_rate rate)) 12 []

abbrev pub WavWriteCall : ℕ → ℕ → List ℕ → List ℕ → List ℕ → List ℕ → ℕ → Type 0
WavWriteCall rate channels bytes out =
    ToldWritten (decide (rate_place rate ∷ write_places (rate_of rate) channels bytes (length out))) (wav_file (rate_of rate) channels bytes) out

pub record WavHeaderDone (d : Decision) (rate channels n : ℕ) (out out' : List ℕ) (answer : ℕ) : Type 0 where
  pub number : answer ≡ refusal_number d
  pub written : out' ≡ by_decision d (wav.header rate channels n) out

abbrev pub WavHeaderCall : ℕ → ℕ → ℕ → List ℕ → List ℕ → ℕ → Type 0
WavHeaderCall rate channels n out = WavHeaderDone (decide (rate_place rate ∷ head_places (rate_of rate) channels n 44)) (hertz (rate_of rate)) channels n out
