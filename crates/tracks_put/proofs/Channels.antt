-- A channel from its pieces.
use Rattle.std.proofs.Common.{◌≡◌, refl, sym, ap, ◌∙◌, List, ℕ, ◌+◌, ◌*◌, ◌-◌, ◌/◌, ◌%◌, ◌^◌, ◌≤◌, ◌<◌, add-mul, mul-le-mul_right, arith, length, get_or, take}
use Rattle.std.proofs.Common.{drop, length-drop, get_or-take, get_or-drop, length-take-le}
use Rattle.numbers.specs.inner.Lists.{Written}
use Rattle.reference.specs.Frames.{frame_length}
use Rattle.dsf.specs.Dsf.{blocks, data_place}
use Rattle.dsf_columns.specs.inner.Columns.{ColumnArgs}
use Rattle.dsf_columns.proofs.Strides as strides
use Rattle.dsf_columns.proofs.Strides.{strided_then}
use Rattle.tracks_put.specs.inner.Putting.{table_byte, ChannelArgs}

-- the place behind s more of them
pub next_place : (stride at m s k j : ℕ) → j ≡ at + m * stride → m + s ≡ k → j + s * stride ≡ at + k * stride
next_place stride at m s k j e h = omega (arith, e, sym (add-mul m s stride) ∙ ap (λ (x : ℕ). x * stride) h)

pub two_parts : (a b c : ℕ) → a ≤ b → b ≤ c → b - a + (c - b) ≡ c - a
two_parts a b c h l = omega arith

-- ---- where the pieces stand
module _ {n c from to start size at out : ℕ} (a : ChannelArgs n c from to start size at out) where
  -- a piece within a block
  module _ (q stop : ℕ) (low : from ≤ q) (some : q < stop) (high : stop ≤ to) (one : stop ≤ q / 4096 * 4096 + 4096) where
    abbrev place : ℕ
    place = (q / 4096 * n + c) * 4096 + q % 4096

    piece_args : ColumnArgs n c q stop start size (frame_length n)
    unfolding blocks
    piece_args =
        let b : from / 4096 * 4096 ≤ q / 4096 * 4096 = omega arith in
        let e : (stop + 4095) / 4096 * 4096 ≤ (to + 4095) / 4096 * 4096 = omega arith in
        record {
          six = a.six;
          channel = a.channel;
          some = omega arith;
          most = omega arith;
          small = omega (arith, a.small);
          begins = omega (arith, a.begins, mul-le-mul_right n b);
          covers = omega (arith, a.covers, mul-le-mul_right n e);
          lent = refl;
        }

    pub above : start ≤ q / 4096 * n * 4096
    above = strides.above piece_args q (omega arith)

    pub small : place < 2 ^ 64
    small = strides.small piece_args q some

    pub within : place - start + (stop - q) ≤ size
    within = strides.within piece_args q stop (omega arith) some (omega arith) one

    -- its places
    pub cells : at + (q - from) * n + (stop - q) * n < out + n
    cells =
        let m : q - from + (stop - q) ≤ to - from = omega arith in
        omega (arith, a.lent, mul-le-mul_right n m, add-mul (q - from) (stop - q) n)

    module _ (window table : List ℕ) (long : length window ≡ size) where
      abbrev piece : List ℕ
      piece = take (place - start + (stop - q) - (place - start)) (drop (place - start) window)

      count : place - start + (stop - q) - (place - start) ≡ stop - q
      count = omega arith

      long_from : (p : ℕ) → p + (stop - q) ≤ size → length (take (p + (stop - q) - p) (drop p window)) ≡ stop - q
      long_from p g =
          let z : p + (stop - q) - p ≡ stop - q = omega arith in
          rw z (length-take-le (stop - q) (drop p window) (omega (arith, length-drop p window)))

      piece_length : length piece ≡ stop - q
      piece_length = long_from (place - start) within

      -- a piece of so many bytes, from wherever it is taken, goes into the buffer
      pub piece_fits : (p : ℕ) → p + (stop - q) ≤ size → at + (q - from) * n + length (take (p + (stop - q) - p) (drop p window)) * n < out + n
      piece_fits p g = rw (long_from p g) cells

      piece_byte : (i : ℕ) → i < stop - q → get_or table (get_or piece i 0) 0 ≡ table_byte window table n start c from (q - from + i)
      unfolding table_byte data_place
      piece_byte i h =
          let k : from + (q - from + i) ≡ q + i = omega arith in
          let b : (q + i) / 4096 ≡ q / 4096 = omega arith in
          let r : (q + i) % 4096 ≡ q % 4096 + i = omega arith in
          let p : place - start + i ≡ (q / 4096 * n + c) * 4096 + (q % 4096 + i) - start = omega (arith, above) in
          rw (count, get_or-take (stop - q) (drop (place - start) window) i 0 h, get_or-drop (place - start) window i 0, p, k, b, r) refl

      pub next_piece : {old mid new : List ℕ} → Written 0 (λ i. at + i * n) (table_byte window table n start c from) (q - from) old mid
          → Written 0 (λ i. at + (q - from) * n + i * n) (λ i. get_or table (get_or piece i 0) 0) (length piece) mid new
          → Written 0 (λ i. at + i * n) (table_byte window table n start c from) (stop - from) old new
      next_piece w p =
          let r : q - from + length piece ≡ stop - from = omega (arith, piece_length) in
          rw r at (strided_then at n (omega (arith, a.channel)) (at + (q - from) * n) refl w p (λ i g. piece_byte i (omega (arith, piece_length))))
