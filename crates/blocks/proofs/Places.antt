-- Numbers of a route: its blocks in a frame, its taps, and the bytes that its histories and blocks are gathered from.
use Rattle.std.proofs.Common.{◌≡◌, refl, ◌∙◌, ap, Bool, true, false, List, ℕ, ◌+◌, ◌*◌, ◌/◌, ◌^◌, ◌≤◌, ◌<◌, arith, lit≤, ℤ, length}
use Rattle.reference.specs.Stages.{M}
use Rattle.reference.specs.Output.{samples_per_frame}
use Rattle.reference.specs.declared.PcmRate.{PcmRate}
use Rattle.reference.specs.declared.PcmRate.TheVariants.{Hz88200, Hz176400, Hz352800}
use Rattle.reference.specs.declared.Cutoff.{Cutoff}
use Rattle.reference.specs.declared.Cutoff.TheVariants.{Standard, Low, Wide}
use Rattle.reference.proofs.Locality.{F40_last, F80_last}
use Rattle.reference.specs.declared.Converter.{Converter}
use Rattle.routes.specs.declared.Route.{Route}
use Rattle.routes.specs.declared.Route.TheVariants.{Narrow88, Narrow176, Narrow352, Wide176, Wide352}
use Rattle.routes.specs.inner.Routes.{route_of, Routed, LastFilter, lent_taps, RouteTaps, stride, around, first_byte, block_length, fresh, history_from}
use Rattle.routes.proofs.Filters.{halves_length}

-- ---- blocks

blocks_whole : (rate : PcmRate) (cutoff : Cutoff)
    → samples_per_frame rate / block_length (route_of rate cutoff) * block_length (route_of rate cutoff) ≡ samples_per_frame rate
unfolding samples_per_frame block_length route_of
blocks_whole Hz88200 cutoff = refl
blocks_whole Hz176400 Standard = refl
blocks_whole Hz176400 Low = refl
blocks_whole Hz176400 Wide = refl
blocks_whole Hz352800 Standard = refl
blocks_whole Hz352800 Low = refl
blocks_whole Hz352800 Wide = refl

-- a frame is a whole number of blocks
pub whole_blocks : {conv : Converter} {route : Route} → Routed conv route → samples_per_frame conv.rate / block_length route * block_length route ≡ samples_per_frame conv.rate
whole_blocks {conv} r = rw r.is (blocks_whole conv.rate conv.cutoff)

-- ---- taps

filter_length : (route : Route) (F : List ℤ) → LastFilter route F → (0 < length F) × (length F ≤ 117)
unfolding LastFilter
filter_length Narrow88 F f = (f.some, f.few)
filter_length Narrow176 F f = (f.some, f.few)
filter_length Narrow352 F f = (f.some, f.few)
filter_length Wide176 F f = (omega (arith, ap length f, F80_last), omega (arith, ap length f, F80_last))
filter_length Wide352 F f = (omega (arith, ap length f, F40_last), omega (arith, ap length f, F40_last))

lent_length : (route : Route) (F : List ℤ) {h : List ℤ} → h ≡ lent_taps route F → length h ≡ length F
unfolding lent_taps
lent_length Narrow88 F e = halves_length F e
lent_length Narrow176 F e = ap length e
lent_length Narrow352 F e = ap length e
lent_length Wide176 F e = halves_length F e
lent_length Wide352 F e = ap length e

module _ {route : Route} {F h : List ℤ} (t : RouteTaps route F h) where
  pub some_taps : 0 < length h
  some_taps = omega (arith, (filter_length route F t.last).0, lent_length route F t.lent)

  pub few_taps : length h ≤ 117
  few_taps = omega (arith, (filter_length route F t.last).1, lent_length route F t.lent)

  pub last_place : M F ≡ M h
  last_place = omega (arith, lent_length route F t.lent)

-- ---- the bytes of a history and of a block at sample n, for a filter whose last tap is at place m

-- k values more
pub first_byte_more : (route : Route) (i k : ℕ) → 10 ≤ i → first_byte route (i + k) ≡ first_byte route i + stride route * k
unfolding first_byte stride
first_byte_more Narrow88 i k l = omega arith
first_byte_more Narrow176 i k l = omega arith
first_byte_more Narrow352 i k l = omega arith
first_byte_more Wide176 i k l = omega arith
first_byte_more Wide352 i k l = omega arith

first_byte_near : (route : Route) (i : ℕ) → first_byte route i ≤ 2 * i
unfolding first_byte
first_byte_near Narrow88 i = omega arith
first_byte_near Narrow176 i = omega arith
first_byte_near Narrow352 i = omega arith
first_byte_near Wide176 i = omega arith
first_byte_near Wide352 i = omega arith

module _ (m n : ℕ) (few : m ≤ 116) (late : 1000 ≤ n) where
  pub history_low : (route : Route) (first : Bool) → 10 ≤ history_from route m first n
  unfolding history_from
  history_low Narrow88 first = omega arith
  history_low Narrow176 first = omega arith
  history_low Narrow352 true = omega arith
  history_low Narrow352 false = omega arith
  history_low Wide176 first = omega arith
  history_low Wide352 first = omega arith

  -- the next block follows on this one's values
  pub history_next : (route : Route) (first : Bool) → history_from route m false (n + block_length route) ≡ history_from route m first n + fresh route first
  unfolding history_from block_length fresh
  history_next Narrow88 first = omega arith
  history_next Narrow176 first = omega arith
  history_next Narrow352 true = omega arith
  history_next Narrow352 false = omega arith
  history_next Wide176 first = omega arith
  history_next Wide352 first = omega arith

  history_near : (route : Route) (first : Bool) → history_from route m first n ≤ 2 * n
  unfolding history_from
  history_near Narrow88 first = omega arith
  history_near Narrow176 first = omega arith
  history_near Narrow352 true = omega arith
  history_near Narrow352 false = omega arith
  history_near Wide176 first = omega arith
  history_near Wide352 first = omega arith

  module _ (route : Route) (first : Bool) where
    -- the first byte of a block's values, and of the next one's
    abbrev pub block_byte : ℕ
    block_byte = first_byte route (history_from route m first n + 2 * m)

    pub block_byte_near : n < 2 ^ 50 → block_byte < 2 ^ 62
    block_byte_near l = omega (arith, first_byte_near route (history_from route m first n + 2 * m), history_near route first)

    pub block_byte_next : first_byte route (history_from route m false (n + block_length route) + 2 * m) ≡ block_byte + stride route * fresh route first
    block_byte_next =
        let e : history_from route m false (n + block_length route) + 2 * m ≡ history_from route m first n + 2 * m + fresh route first = omega (arith, history_next route first) in
        ap (first_byte route) e ∙ first_byte_more route (history_from route m first n + 2 * m) (fresh route first) (omega (arith, history_low route first))

-- what is gathered fits its array
pub history_fits : (route : Route) (m : ℕ) → m ≤ 116 → stride route * (2 * m) + around route ≤ 512
unfolding stride around
history_fits Narrow88 m l = omega arith
history_fits Narrow176 m l = omega arith
history_fits Narrow352 m l = omega arith
history_fits Wide176 m l = omega arith
history_fits Wide352 m l = omega arith

pub block_fits : (route : Route) (first : Bool) → stride route * fresh route first + around route ≤ 512
unfolding stride around fresh
block_fits Narrow88 first = lit≤ tt
block_fits Narrow176 first = lit≤ tt
block_fits Narrow352 true = lit≤ tt
block_fits Narrow352 false = lit≤ tt
block_fits Wide176 first = lit≤ tt
block_fits Wide352 first = lit≤ tt
