-- What the loops over blocks go by, and what they give.
use Rattle.std.specs.Prelude.{◌≡◌, List, ℕ, ◌+◌, ◌<◌, T, ℤ}
use Rattle.reference.specs.Frames.{Run}
use Rattle.reference.specs.Output.{unclamped, sample}
use Rattle.reference.specs.declared.Converter.{Converter}
use Rattle.reference.specs.declared.ChannelStats.{ChannelStats}
use Rattle.channel_bytes.specs.inner.Lent.{Lent}
use Rattle.routes.specs.declared.Route.{Route}
use Rattle.routes.specs.inner.Routes.{Routed, FirstTables, RouteTaps, last_of}
use Rattle.gain.specs.Scale.{bounded}
use Rattle.gain.specs.Tallies.{tally}
use Rattle.output.specs.inner.Fills.{Layout, Drawn}

-- an accepted converter with its route, the slices of a run of `count` frames, and the route's tables and taps
pub record Ready (conv : Converter) (route : Route) (count : ℕ) (b f a : List ℕ) (tables taps : List ℤ) : Type 0 where
  pub slices : Lent conv.channels count b f a
  pub routed : Routed conv route
  pub first : FirstTables route tables
  pub last : RouteTaps route (last_of conv) taps
  pub factor : T (bounded conv.gain.linear)

-- m samples of channel c from sample n on, written to the output, and what they tell. S is any signal that has these
-- samples at their places, so that every other place keeps what it held
pub record Made {A : Type 0} (o : Layout A) (conv : Converter) (r : Run) (c n m : ℕ) (told : ChannelStats) (x y : List A) : Type 0 where
  pub box : (S : ℕ → ℕ → ℤ) → ((k : ℕ) → k < m → S c (n + k) ≡ sample conv r c (n + k)) → Drawn o S conv.channels n (n + m) c (c + 1) x y
  pub is_told : told ≡ tally (unclamped conv r c) n m
