-- Some bytes of each channel of a track, in the order of a frame.
use Rattle.std.specs.Prelude.{◌≡◌, List, ℕ, ◌+◌, ◌-◌, ◌*◌, ◌/◌, ◌≤◌, ◌<◌, ◌^◌, length, get_or}
use Rattle.numbers.specs.Lists.{tabulate}
use Rattle.dsf.specs.Dsf.{block, blocks, data_place, turn_byte}
use Rattle.tracks_put.specs.declared.Part.{Part}

-- bytes `from` to `to` of each channel, the channels in turn
unfoldable pub stretch : (ℕ → ℕ) → ℕ → ℕ → ℕ → ℕ → ℕ → List ℕ
stretch read n bits samples from to = tabulate (turn_byte read n bits samples) (from * n) ((to - from) * n)

-- ---- what the code asks for

-- a window of `size` bytes from `start` of the data on holds them, and a buffer of `out` bytes has places for them
pub record PutArgs (n samples : ℕ) (part : Part) (start size out : ℕ) : Type 0 where
  pub one : 1 ≤ n
  pub six : n ≤ 6
  pub order : part.from ≤ part.to
  pub there : part.to ≤ samples / 8
  pub begins : start ≤ part.from / block * block * n
  pub covers : blocks part.to * block * n ≤ start + size
  pub lent : (part.at + (part.to - part.from)) * n ≤ out
  pub small : out < 2 ^ 63

-- of one channel, its byte i from `from` on, through a table
unfoldable pub table_byte : List ℕ → List ℕ → ℕ → ℕ → ℕ → ℕ → ℕ → ℕ
table_byte window table n start c from i = get_or table (get_or window (data_place n c (from + i) - start) 0) 0

pub record ChannelArgs (n c from to start size at out : ℕ) : Type 0 where
  pub six : n ≤ 6
  pub channel : c < n
  pub order : from ≤ to
  pub small : to ≤ 2 ^ 61
  pub begins : start ≤ from / block * block * n
  pub covers : blocks to * block * n ≤ start + size
  pub lent : at + (to - from) * n < out + n
  pub room : out + n < 2 ^ 64

-- m bytes of each channel below c, from byte `at` on, are f's; before them and behind them the buffer has what it had
pub record Placed (n at m c : ℕ) (f : ℕ → ℕ → ℕ) (old new : List ℕ) : Type 0 where
  pub same : length new ≡ length old
  pub done : (d i : ℕ) → d < c → i < m → get_or new ((at + i) * n + d) 0 ≡ f d i
  pub before : (j : ℕ) → j < at * n → get_or new j 0 ≡ get_or old j 0
  pub behind : (j : ℕ) → (at + m) * n ≤ j → get_or new j 0 ≡ get_or old j 0
