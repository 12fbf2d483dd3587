-- What the API's call of a kind makes; no part of a promise of the C calls.
use Rattle.std.specs.Prelude.{◌≡◌, List, Bool, ℕ}
use Rattle.reference.specs.Frames.{Run}
use Rattle.reference.specs.Output.{per_frame_clips}
use Rattle.reference.specs.Refusals.{decide}
use Rattle.reference.specs.Promises.{by_decision, if_lent, Converted, Answered}
use Rattle.reference.specs.declared.Converter.{Converter}
use Rattle.c_calls.specs.Calls.{bytes_places, bytes_written}
use Rattle.c_calls.specs.declared.conversions.ToBytes.{ToBytes}

pub record BytesMade (kind : ToBytes) (conv : Converter) (r : Run) (lent : Bool) (out counts out' counts' : List ℕ) (answer : Converted) : Type 0 where
  pub answered : Answered (bytes_places kind conv r out lent counts) conv r answer
  pub written : out' ≡ by_decision (decide (bytes_places kind conv r out lent counts)) (bytes_written kind conv r) out
  pub per_frame : counts' ≡ by_decision (decide (bytes_places kind conv r out lent counts)) (if_lent lent (per_frame_clips conv r) counts) counts
