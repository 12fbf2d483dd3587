-- A route: the filters of a rate and a cutoff, the y that they give, and what the kernel's arrays hold between two
-- blocks of a channel.
use Rattle.std.specs.Prelude.{◌≡◌, List, ◌++◌, Bool, true, false, ℕ, ◌+◌, ◌-◌, ◌*◌, ◌/◌, ◌%◌, ◌≤◌, ◌<◌, ℤ, pos, length}
use Rattle.numbers.specs.inner.Lists.{Held}
use Rattle.reference.specs.Taps.{S1, S1_WIDE, F40, F30, F80}
use Rattle.reference.specs.Stages.{taps_of, M, u, v, w, y_narrow, y_wide}
use Rattle.reference.specs.declared.PcmRate.{PcmRate}
use Rattle.reference.specs.declared.PcmRate.TheVariants.{Hz88200, Hz176400, Hz352800}
use Rattle.reference.specs.declared.Cutoff.{Cutoff}
use Rattle.reference.specs.declared.Cutoff.TheVariants.{Standard, Low, Wide}
use Rattle.reference.specs.declared.Converter.{Converter}
use Rattle.reference.specs.Refusals.{unsupported}
use Rattle.reference.specs.inner.Sizes.{absolute_sum}
use Rattle.tables.specs.Tables.{ByteTables}
use Rattle.filters.specs.inner.Filters.{even_taps, odd_taps, UnityGain}
use Rattle.routes.specs.declared.Route.{Route}
use Rattle.routes.specs.declared.Route.TheVariants.{Narrow88, Narrow176, Narrow352, Wide176, Wide352}

-- the route of a rate and a cutoff. Opening refuses Wide at 88,200: what stands for it here is of no run
unfoldable pub route_of : PcmRate → Cutoff → Route
route_of Hz88200 cutoff = Narrow88
route_of Hz176400 Standard = Narrow176
route_of Hz176400 Low = Narrow176
route_of Hz176400 Wide = Wide176
route_of Hz352800 Standard = Narrow352
route_of Hz352800 Low = Narrow352
route_of Hz352800 Wide = Wide352

-- the route is that of a converter whose rate and cutoff opening supports
pub record Routed (conv : Converter) (route : Route) : Type 0 where
  pub is : route ≡ route_of conv.rate conv.cutoff
  pub supported : unsupported conv.rate conv.cutoff ≡ false

-- ---- filters

-- a low-pass for the routes of Standard and Low
pub record LowPass (F : List ℤ) : Type 0 where
  pub some : 0 < length F
  pub few : length F ≤ 117
  pub keeps : UnityGain F
  pub small : absolute_sum F ≤ 40000000

-- the last filter of a route may be F: any low-pass for Standard and Low, its own for Wide
unfoldable pub LastFilter : Route → List ℤ → Type 0
LastFilter Narrow88 F = LowPass F
LastFilter Narrow176 F = LowPass F
LastFilter Narrow352 F = LowPass F
LastFilter Wide176 F = F ≡ F80
LastFilter Wide352 F = F ≡ F40

-- the last filters of the reference, with the low-pass F of Standard; opening refuses Wide at 88,200
unfoldable pub last_taps : PcmRate → Cutoff → List ℤ → List ℤ
last_taps rate Standard F = F
last_taps rate Low F = F30
last_taps Hz88200 Wide F = F40
last_taps Hz176400 Wide F = F80
last_taps Hz352800 Wide F = F40

-- a converter's
abbrev pub last_of : Converter → List ℤ
last_of conv = last_taps conv.rate conv.cutoff (taps_of conv.filter)

-- the byte tables of the first stage
unfoldable pub FirstTables : Route → List ℤ → Type 0
FirstTables Narrow88 tables = ByteTables S1 8 tables
FirstTables Narrow176 tables = ByteTables S1 8 tables
FirstTables Narrow352 tables = ByteTables S1 8 tables
FirstTables Wide176 tables = ByteTables S1_WIDE 12 tables
FirstTables Wide352 tables = ByteTables S1_WIDE 12 tables

-- the even taps, and then the odd ones
unfoldable pub halves_of : List ℤ → List ℤ
halves_of F = even_taps F ++ odd_taps F

-- h has the halves of some filter F, within the bounds of arrays and sums
pub record HalvedFilter (h : List ℤ) : Type 0 where
  pub some : 0 < length h
  pub few : length h ≤ 117
  pub F : List ℤ
  pub halved : h ≡ halves_of F
  pub keeps : UnityGain F
  pub small : absolute_sum F ≤ 40100000

-- the taps as they are lent: in halves where y is at half the rate of what the last filter reads
unfoldable pub lent_taps : Route → List ℤ → List ℤ
lent_taps Narrow88 F = halves_of F
lent_taps Narrow176 F = F
lent_taps Narrow352 F = F
lent_taps Wide176 F = halves_of F
lent_taps Wide352 F = F

-- h is F, a filter that may be the route's last, as it is lent
pub record RouteTaps (route : Route) (F h : List ℤ) : Type 0 where
  pub last : LastFilter route F
  pub lent : h ≡ lent_taps route F

-- h is some such filter
pub record SomeTaps (route : Route) (h : List ℤ) : Type 0 where
  pub F : List ℤ
  pub taps : RouteTaps route F h

-- y of the route with the last filter F. `y` of the reference, of supported settings, is so with `last_taps`
-- (`y_of_is`, proofs/Routes)
unfoldable pub y_of : Route → List ℤ → (ℕ → ℕ) → ℕ → ℤ
y_of Narrow88 F β n = y_narrow Hz88200 F β n
y_of Narrow176 F β n = y_narrow Hz176400 F β n
y_of Narrow352 F β n = y_narrow Hz352800 F β n
y_of Wide176 F β n = y_wide Hz176400 β n
y_of Wide352 F β n = y_wide Hz352800 β n

-- ---- what the last filter reads

-- v of Standard and Low, u of Wide
unfoldable pub filter_input : Route → (ℕ → ℕ) → ℕ → ℤ
filter_input Narrow88 β i = v β i
filter_input Narrow176 β i = v β i
filter_input Narrow352 β i = v β i
filter_input Wide176 β i = u S1_WIDE β i
filter_input Wide352 β i = u S1_WIDE β i

-- bytes from one value of it to the next
unfoldable pub stride : Route → ℕ
stride Narrow88 = 2
stride Narrow176 = 2
stride Narrow352 = 2
stride Wide176 = 1
stride Wide352 = 1

-- n values depend on stride × n + around bytes
unfoldable pub around : Route → ℕ
around Narrow88 = 36
around Narrow176 = 36
around Narrow352 = 36
around Wide176 = 11
around Wide352 = 11

-- the first byte that the values from value i on depend on
unfoldable pub first_byte : Route → ℕ → ℕ
first_byte Narrow88 i = 2 * i - 19
first_byte Narrow176 i = 2 * i - 19
first_byte Narrow352 i = 2 * i - 19
first_byte Wide176 i = i - 6
first_byte Wide352 i = i - 6

-- ---- blocks

-- samples in a block, those of 336 bytes, and of 168 for Wide at 176,400: a frame is a whole number of blocks
unfoldable pub block_length : Route → ℕ
block_length Narrow88 = 84
block_length Narrow176 = 168
block_length Narrow352 = 336
block_length Wide176 = 84
block_length Wide352 = 336

-- the values that a block brings. At 352,800 the first block of a batch brings, for Standard and Low, also those of
-- the 16 values of w before its own
unfoldable pub fresh : Route → Bool → ℕ
fresh Narrow88 first = 168
fresh Narrow176 first = 168
fresh Narrow352 true = 184
fresh Narrow352 false = 168
fresh Wide176 first = 168
fresh Wide352 first = 336

-- the history of the block at sample n, for a last filter of m + 1 taps, is 2m values from this one on: those that the
-- block's values follow
unfoldable pub history_from : Route → ℕ → Bool → ℕ → ℕ
history_from Narrow88 m first n = 2 * n - m
history_from Narrow176 m first n = n - m
history_from Narrow352 m true n = n / 2 - 8 - m
history_from Narrow352 m false n = n / 2 + 8 - m
history_from Wide176 m first n = 2 * n - m
history_from Wide352 m first n = n - m

-- at 352,800 Standard and Low keep 16 values of w from block to block
unfoldable pub Kept : Route → List ℤ → Bool → (ℕ → ℕ) → ℕ → List ℤ → Type 0
Kept Narrow88 F first β n l = Unit {0}
Kept Narrow176 F first β n l = Unit {0}
Kept Narrow352 F true β n l = n % 2 ≡ 0
Kept Narrow352 F false β n l = (n % 2 ≡ 0) × Held (pos 0) (w F β) (n / 2 - 8) 16 l
Kept Wide176 F first β n l = Unit {0}
Kept Wide352 F first β n l = Unit {0}

-- the arrays before the block that starts at sample n, counted from the frame before the run; `first` tells a batch's
-- first block
pub record State (route : Route) (F : List ℤ) (first : Bool) (β : ℕ → ℕ) (n : ℕ) (x kept : List ℤ) : Type 0 where
  pub history : Held (pos 0) (filter_input route β) (history_from route (M F) first n) (2 * M F) x
  pub w_kept : Kept route F first β n kept

-- the bytes that the block at sample n brings
abbrev pub Brought : Route → List ℤ → Bool → (ℕ → ℕ) → ℕ → List ℕ → Type 0
Brought route F first β n bytes = Held 0 β (first_byte route (history_from route (M F) first n + 2 * M F)) (stride route * fresh route first + around route) bytes
