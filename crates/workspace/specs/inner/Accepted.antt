-- What a run is converted by.
use Rattle.std.specs.Prelude.{◌≡◌, List, false, ℕ, ◌≤◌, T}
use Rattle.reference.specs.Refusals.{unsupported}
use Rattle.reference.specs.declared.Converter.{Converter}
use Rattle.channel_bytes.specs.inner.Lent.{Lent}
use Rattle.routes.specs.inner.Routes.{route_of, LastFilter, last_of}
use Rattle.gain.specs.Scale.{bounded}

-- an accepted converter, and the slices of a run of `count` frames
pub record Accepted (conv : Converter) (count : ℕ) (b f a : List ℕ) : Type 0 where
  pub slices : Lent conv.channels count b f a
  pub few_taps : conv.filter.count ≤ 117
  pub supported : unsupported conv.rate conv.cutoff ≡ false
  pub last : LastFilter (route_of conv.rate conv.cutoff) (last_of conv)
  pub factor : T (bounded conv.gain.linear)
