-- What is proved of the converting writer.
use Rattle.std.specs.Prelude.{◌≡◌, Result, Ok, List, Bool, ℕ}
use Rattle.reference.specs.Frames.{Run}
use Rattle.reference.specs.Output.{samples, s24le}
use Rattle.reference.specs.Refusals.{decision, accepted}
use Rattle.reference.specs.Promises.{Converted}
use Rattle.reference.specs.declared.Converter.{Converter}
use Rattle.reference.specs.declared.PcmError.{PcmError}
use Rattle.wav_format.specs.Promises.{ReadPromise, file_samples}
use Rattle.wav_format.specs.Theorems.{format}
use Rattle.wav_format.specs.declared.WavFormat.{WavFormat}
use Rattle.wav.specs.Promises.{WavPromise}

-- what it wrote is read back: rate, channels, and `convert`'s bytes. Proved in proofs/Theorems, `converted_read`
abbrev pub ConvertedRead : Type 0
ConvertedRead =
    (conv : Converter) (r : Run) (lent : Bool) (out counts out' counts' : List ℕ) (done : Converted) → WavPromise conv r lent out counts out' counts' done
    → decision done ≡ accepted → (a : Result WavFormat PcmError) → ReadPromise out' a
    → (a ≡ Ok (format conv.rate conv.channels)) × (file_samples out' ≡ s24le (samples conv r))
