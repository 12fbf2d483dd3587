-- A piece of an album out of its frames; no part of a promise.
use Rattle.std.specs.Prelude.{◌≡◌, Ok, false, List, [], ℕ, ◌+◌, ◌*◌, ◌≤◌, ltb, min, length, take, drop}
use Rattle.reference.specs.Frames.{Run, run, frame_length}
use Rattle.reference.specs.Output.{samples, stats, s24le}
use Rattle.reference.specs.Refusals.{rack, decide, accepted, convert_places, most}
use Rattle.reference.specs.Promises.{Converted}
use Rattle.reference.specs.declared.Converter.{Converter}
use Rattle.reference.specs.declared.Limit.TheVariants as limit

-- how many of them stand before it
abbrev pub before_of : ℕ → ℕ
before_of first = min first 1

-- `count` frames from frame `first` on, out of a list of those from the one before to the one after, where these are
unfoldable pub sliced : ℕ → ℕ → ℕ → List ℕ → Run
sliced n first count l =
    let start = before_of first * frame_length n in
    let end = start + count * frame_length n in
    run (ltb 0 first) (take start l) (take (count * frame_length n) (drop start l)) (ltb end (length l)) (drop end l)

pub record SliceArgs (conv : Converter) (first count : ℕ) (frames out : List ℕ) : Type 0 where
  pub six : conv.channels ≤ 6
  pub few : count ≤ most limit.Rack
  pub within : before_of first * frame_length conv.channels + count * frame_length conv.channels ≤ length frames
  pub taken : decide (convert_places rack conv (sliced conv.channels first count frames) out false []) ≡ accepted

pub record Converting (conv : Converter) (r : Run) (out' : List ℕ) (answer : Converted) : Type 0 where
  pub written : out' ≡ s24le (samples conv r)
  pub counted : answer ≡ Ok (stats conv r)
