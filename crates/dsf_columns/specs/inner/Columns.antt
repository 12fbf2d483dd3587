-- How a channel of a frame is put together; no part of a promise.
use Rattle.std.specs.Prelude.{◌≡◌, List, cond, ℕ, ◌+◌, ◌-◌, ◌*◌, ◌/◌, ◌≤◌, ◌<◌, ◌^◌, ltb, get_or}
use Rattle.reference.specs.Frames.{frame_bytes, frame_length, idle}
use Rattle.dsf.specs.Dsf.{block, blocks, data_place}
use Rattle.dsf.specs.inner.Orders.{ordered}
use Rattle.dsf.specs.declared.BitOrder.{BitOrder}

-- byte k of channel c from `first` on, with the data up to `end`; each byte through a table
unfoldable pub column_byte : List ℕ → List ℕ → ℕ → ℕ → ℕ → ℕ → ℕ → ℕ → ℕ
column_byte window table n first end start c k =
    cond (ltb (first + k) end) (get_or table (get_or window (data_place n c (first + k) - start) 0) 0) idle

-- a table of all bytes in our bit order
pub record Ordering (order : BitOrder) (table : List ℕ) : Type 0 where
  pub is : (x : ℕ) → x < 256 → get_or table x 0 ≡ ordered order x

pub record ColumnArgs (n c first end start size out : ℕ) : Type 0 where
  pub six : n ≤ 6
  pub channel : c < n
  pub some : first ≤ end
  pub most : end ≤ first + frame_bytes
  pub small : end ≤ 2 ^ 61
  pub begins : start ≤ first / block * block * n
  pub covers : blocks end * block * n ≤ start + size
  pub lent : out ≡ frame_length n
