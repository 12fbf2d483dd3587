-- What is proved of WAV files, in proofs/Theorems: `takes_exactly`, `written_read`, `written_back`, `taken_with`.
use Rattle.std.specs.Prelude.{◌≡◌, Result, Ok, List, [], true, ℕ, length}
use Rattle.reference.specs.Refusals.{decide, accepted, refused}
use Rattle.reference.specs.declared.PcmRate.{PcmRate}
use Rattle.reference.specs.declared.PcmError.{PcmError}
use Rattle.wav_format.specs.Wav.{Taken, right_data}
use Rattle.wav_format.specs.Places.{read_places}
use Rattle.wav_format.specs.Promises.{ReadPromise, file_samples, WritePromise}
use Rattle.wav_format.specs.declared.WavFormat.{WavFormat}

abbrev pub format : PcmRate → ℕ → WavFormat
format rate channels = record { rate = rate; channels = channels }

-- exactly the files of the definition are taken; every other is refused 12
abbrev pub TakesExactly : Type 0
TakesExactly =
    (file : List ℕ)
    → (decide (read_places file) ≡ accepted → Taken file) × (Taken file → decide (read_places file) ≡ accepted)
    × ((Taken file → ⊥) → decide (read_places file) ≡ refused 12 [])

-- what the second entry wrote is read back: rate, channels and sample bytes
abbrev pub WavWrittenRead : Type 0
WavWrittenRead =
    (rate : PcmRate) (channels : ℕ) (l out out' : List ℕ) → WritePromise rate channels l out out' (Ok tt)
    → (a : Result WavFormat PcmError) → ReadPromise out' a → (a ≡ Ok (format rate channels)) × (file_samples out' ≡ l)

-- a file that was read is written back the same by the second entry
abbrev pub WrittenBack : Type 0
WrittenBack =
    (file : List ℕ) (f : WavFormat) → ReadPromise file (Ok f) → (out out' : List ℕ) (v : Result (Unit {0}) PcmError) → length out ≡ length file
    → WritePromise f.rate f.channels (file_samples file) out out' v → (v ≡ Ok tt) × (out' ≡ file)

-- a file that the reader takes with this rate, these channels and these bytes
pub record TakenWith (rate : PcmRate) (channels : ℕ) (l : List ℕ) : Type 0 where
  pub file : List ℕ
  pub read : ReadPromise file (Ok (format rate channels))
  pub samples : file_samples file ≡ l

-- 12 of the second entry: exactly where there is no such file
abbrev pub TakenWithIs : Type 0
TakenWithIs =
    (rate : PcmRate) (channels : ℕ) (l : List ℕ)
    → (TakenWith rate channels l → right_data rate channels (length l) ≡ true) × (right_data rate channels (length l) ≡ true → TakenWith rate channels l)
