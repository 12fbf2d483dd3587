-- What the converting writer promises: `convert`'s promise, with the header in front of the bytes. A primed list is one
-- at exit.
use Rattle.std.specs.Prelude.{◌≡◌, List, Bool, ℕ}
use Rattle.reference.specs.Frames.{Run}
use Rattle.reference.specs.Output.{samples, per_frame_clips, s24le}
use Rattle.reference.specs.Refusals.{decide}
use Rattle.reference.specs.Promises.{by_decision, if_lent, Converted, Answered}
use Rattle.reference.specs.declared.Converter.{Converter}
use Rattle.wav_format.specs.Wav.{wav_file}
use Rattle.wav_checks.specs.Places.{wav_places}

pub record WavPromise (conv : Converter) (r : Run) (lent : Bool) (out counts out' counts' : List ℕ) (answer : Converted) : Type 0 where
  pub answered : Answered (wav_places conv r out lent counts) conv r answer
  pub written : out' ≡ by_decision (decide (wav_places conv r out lent counts)) (wav_file conv.rate conv.channels (s24le (samples conv r))) out
  pub per_frame : counts' ≡ by_decision (decide (wav_places conv r out lent counts)) (if_lent lent (per_frame_clips conv r) counts) counts
