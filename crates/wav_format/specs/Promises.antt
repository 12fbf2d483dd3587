-- What the reader and the second entry promise: the answer, and what every lent list holds at exit.
use Rattle.std.specs.Prelude.{◌≡◌, Result, Ok, List, [], ℕ, length, drop}
use Rattle.reference.specs.Refusals.{decision, decide}
use Rattle.reference.specs.Promises.{by_decision}
use Rattle.reference.specs.declared.PcmRate.{PcmRate}
use Rattle.reference.specs.declared.PcmError.{PcmError}
use Rattle.wav_format.specs.Wav.{wav_file, Taken}
use Rattle.wav_format.specs.Places.{read_places, write_places}
use Rattle.wav_format.specs.declared.WavFormat.{WavFormat}

-- the reader: rate and channels of a file that it takes
pub record ReadPromise (file : List ℕ) (answer : Result WavFormat PcmError) : Type 0 where
  pub decided : decision answer ≡ decide (read_places file)
  pub told : (t : Taken file) → answer ≡ Ok (record { rate = t.rate; channels = t.channels })

-- the sample bytes of a file, none of a refused one
unfoldable pub file_samples : List ℕ → List ℕ
file_samples file = by_decision (decide (read_places file)) (drop 44 file) []

-- a file from sample bytes: `out` is the output at entry, `out'` at exit
pub record WritePromise (rate : PcmRate) (channels : ℕ) (bytes out out' : List ℕ) (answer : Result (Unit {0}) PcmError) : Type 0 where
  pub decided : decision answer ≡ decide (write_places rate channels bytes (length out))
  pub written : out' ≡ by_decision (decide (write_places rate channels bytes (length out))) (wav_file rate channels bytes) out
