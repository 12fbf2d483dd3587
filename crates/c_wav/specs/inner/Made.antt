-- What the writers make; no part of a promise of the C calls.
use Rattle.std.specs.Prelude.{◌≡◌, Result, List, ◌∷◌, ℕ, length}
use Rattle.reference.specs.Codes.{hertz}
use Rattle.reference.specs.Refusals.{decision, decide}
use Rattle.reference.specs.Promises.{by_decision}
use Rattle.reference.specs.declared.PcmError.{PcmError}
use Rattle.wav_header.specs.Header as wav
use Rattle.wav_format.specs.Wav.{wav_file}
use Rattle.wav_format.specs.Places.{write_places}
use Rattle.wav_heading.specs.Heading.{head_places}
use Rattle.codes.specs.Codes.{rate_of}
use Rattle.c_wav.specs.Calls.{rate_place}

pub record WavMade (rate channels : ℕ) (bytes out out' : List ℕ) (made : Result (Unit {0}) PcmError) : Type 0 where
  pub decided : decision made ≡ decide (rate_place rate ∷ write_places (rate_of rate) channels bytes (length out))
  pub written : out' ≡ by_decision (decide (rate_place rate ∷ write_places (rate_of rate) channels bytes (length out))) (wav_file (rate_of rate) channels bytes) out

pub record HeaderMade (rate channels n : ℕ) (out out' : List ℕ) (made : Result (Unit {0}) PcmError) : Type 0 where
  pub decided : decision made ≡ decide (rate_place rate ∷ head_places (rate_of rate) channels n 44)
  pub written : out' ≡ by_decision (decide (rate_place rate ∷ head_places (rate_of rate) channels n 44)) (wav.header (hertz (rate_of rate)) channels n) out
