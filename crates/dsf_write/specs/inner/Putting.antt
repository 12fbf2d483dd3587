-- How a file is put together; no part of a promise.
use Rattle.std.specs.Prelude.{◌≡◌, List, ◌++◌, ℕ, ◌+◌, ◌*◌, ◌/◌, ◌^◌, ◌≤◌, ◌<◌, length, take}
use Rattle.dsf.specs.Dsf.{block}
use Rattle.dsf_write.specs.Written.{written_channel, written_data}

-- bytes are put from a place on: a beginning that ends there has them behind it
pub record PutPromise (at : ℕ) (word old new : List ℕ) : Type 0 where
  pub same : length new ≡ length old
  pub put : take (at + length word) new ≡ take at old ++ word

-- what the writing of the data is handed, and of its block number `block`
pub record DataArgs (channels : ℕ) (bytes_in : List ℕ) (bytes out : ℕ) : Type 0 where
  pub one : 1 ≤ channels
  pub bytes_are : bytes ≡ written_channel channels bytes_in
  pub held : bytes * channels ≤ length bytes_in
  pub room : length bytes_in + channels < 2 ^ 64
  pub lent : out ≡ written_data channels bytes_in

pub record BlockArgs (channels : ℕ) (bytes_in : List ℕ) (bytes block' out : ℕ) : Type 0 where
  pub one : 1 ≤ channels
  pub bytes_are : bytes ≡ written_channel channels bytes_in
  pub held : bytes * channels ≤ length bytes_in
  pub room : length bytes_in + channels < 2 ^ 64
  pub begun : block' / channels * block < bytes
  pub lent : block' * block + block ≤ out
