-- Which channel's byte stands at a place of the data, and where it stands.
use Rattle.std.proofs.Common.{◌≡◌, ℕ, ◌+◌, ◌*◌, ◌/◌, ◌%◌, ◌<◌, div-add-mod', mod-lt, div-lt_iff_lt-mul, arith}
use Rattle.dsf.specs.Dsf.{data_place}
use Rattle.dsf_columns.proofs.Blocks.{quotient, remainder, group}
use Rattle.dsf_write.specs.Written.{data_channel, data_byte}

module _ (n c q : ℕ) (l : c < n) where
  block_is : data_place n c q / 4096 ≡ q / 4096 * n + c
  unfolding data_place
  block_is = quotient (q / 4096 * n + c) 4096 (q % 4096) (omega arith)

  pub channel_is : data_channel n (data_place n c q) ≡ c
  unfolding data_channel
  channel_is = rw block_is (remainder (q / 4096) n c l)

  pub byte_is : data_byte n (data_place n c q) ≡ q
  unfolding data_byte data_place
  byte_is =
      let b = quotient (q / 4096 * n + c) 4096 (q % 4096) (omega arith) in
      let r = remainder (q / 4096 * n + c) 4096 (q % 4096) (omega arith) in
      rw (b, r, quotient (q / 4096) n c l) (omega arith)

module _ (n j : ℕ) (l : 0 < n) where
  pub place_is : data_place n (data_channel n j) (data_byte n j) ≡ j
  unfolding data_place data_channel data_byte
  place_is =
      let b = quotient (j / 4096 / n) 4096 (j % 4096) (omega arith) in
      let r = remainder (j / 4096 / n) 4096 (j % 4096) (omega arith) in
      rw (b, r, div-add-mod' (j / 4096) n) (omega arith)

  pub channel_below : data_channel n j < n
  unfolding data_channel
  channel_below = mod-lt (j / 4096) l

  pub byte_below : (m : ℕ) → j < m * 4096 * n → data_byte n j < m * 4096
  unfolding data_byte
  byte_below m h =
      let e = group m n in
      let s : j / 4096 / n < m = (div-lt_iff_lt-mul l).1 (omega arith) in
      omega arith
