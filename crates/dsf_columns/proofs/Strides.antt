-- Bytes at a stride, and a channel put together from pieces.
use Rattle.std.proofs.Common.{◌≡◌, refl, sym, ap, ◌∙◌, List, ◌≢◌, ℕ, ◌+◌, ◌*◌, ◌-◌, ◌/◌, ◌%◌, ◌^◌, ◌≤◌, ◌<◌, add-mul, mul-le-mul, mul-le-mul_right, arith, ltb}
use Rattle.std.proofs.Common.{lt→ltb, ltb→lt, length, get_or, set, take, drop, length-drop, get_or-take, get_or-drop, length-take-le}
use Rattle.numbers.specs.inner.Lists.{Written}
use Rattle.numbers.proofs.Lists.{written_more, written_then}
use Rattle.reference.specs.Frames.{idle}
use Rattle.dsf.specs.Dsf.{blocks, data_place}
use Rattle.dsf_columns.specs.inner.Columns.{column_byte, ColumnArgs}
use Rattle.dsf_columns.proofs.Blocks.{remainder, place_below, group}
use Rattle.dsf.proofs.Alike.{pick, skip}

-- ---- places at a stride, of which none comes twice
module _ (at stride : ℕ) (some : 1 ≤ stride) where
  apart : (i n : ℕ) → i < n → at + i * stride ≢ at + n * stride
  apart i n l = omega (arith, mul-le-mul_right stride l)

  module _ {f : ℕ → ℕ} {old : List ℕ} where
    pub strided_more : {new : List ℕ} {n v : ℕ} → Written 0 (λ i. at + i * stride) f n old new → at + n * stride < length old → v ≡ f n
        → Written 0 (λ i. at + i * stride) f (n + 1) old (set new (at + n * stride) v)
    strided_more {n = n} w l e = written_more w refl (λ i m. apart i n m) (omega (arith, w.same)) e

    -- and more of them, from place `to` on
    pub strided_then : {g : ℕ → ℕ} (to : ℕ) {m s : ℕ} {mid new : List ℕ} → to ≡ at + m * stride → Written 0 (λ i. at + i * stride) f m old mid
        → Written 0 (λ i. to + i * stride) g s mid new → ((i : ℕ) → i < s → g i ≡ f (m + i)) → Written 0 (λ i. at + i * stride) f (m + s) old new
    strided_then to {m = m} p u w e = written_then u w (λ i l. next i) (λ i k l n z. apart i (m + k) (omega arith) (z ∙ next k)) e
      where
        next : (i : ℕ) → to + i * stride ≡ at + (m + i) * stride
        next i = omega (arith, p, add-mul m i stride)

-- the places of a channel are none of another's
pub other : {n c d : ℕ} (i k : ℕ) → c < n → d < n → d ≢ c → i * n + d ≢ k * n + c
other {n} {c} {d} i k l h g e = g (sym (remainder i n d h) ∙ ap (λ (x : ℕ). x % n) e ∙ remainder k n c l)

-- ---- where the pieces stand
module _ {n c first end start size out : ℕ} (a : ColumnArgs n c first end start size out) where
  abbrev pub place_at : ℕ → ℕ
  place_at q = (q / 4096 * n + c) * 4096 + q % 4096

  -- the window begins no later than the group of blocks that byte q is in
  pub above : (q : ℕ) → first ≤ q → start ≤ q / 4096 * n * 4096
  above q h =
      let s : first / 4096 ≤ q / 4096 = omega arith in
      omega (arith, a.begins, group (first / 4096) n, mul-le-mul_right n s)

  below : (q : ℕ) → q < end → place_at q < blocks end * 4096 * n
  unfolding data_place blocks
  below q h = place_below n c q a.channel (blocks end) (omega arith)

  pub small : (q : ℕ) → q < end → place_at q < 2 ^ 64
  unfolding blocks
  small q h =
      let s : blocks end * 4096 ≤ 2 ^ 61 + 4095 = omega (arith, a.small) in
      omega (arith, below q h, mul-le-mul s a.six)

  -- within a block
  run : (q i : ℕ) → q % 4096 + i < 4096 → place_at (q + i) ≡ place_at q + i
  run q i h =
      let b : (q + i) / 4096 ≡ q / 4096 = omega arith in
      let r : (q + i) % 4096 ≡ q % 4096 + i = omega arith in
      rw (b, r) (omega arith)

  pub within : (q stop : ℕ) → first ≤ q → q < stop → stop ≤ end → stop ≤ q / 4096 * 4096 + 4096 → place_at q - start + (stop - q) ≤ size
  within q stop f h e b =
      let g : q + (stop - q - 1) < end = omega arith in
      omega (arith, below (q + (stop - q - 1)) g, run q (stop - q - 1) (omega arith), above q f, a.covers)

  pub cells : (k s : ℕ) → k + s ≤ 4704 → k * n + c + s * n < out + n
  cells k s h = omega (arith, mul-le-mul_right n h, add-mul k s n, a.lent, a.channel)

  pub lent_small : out + n < 2 ^ 64
  lent_small = omega (arith, a.lent, a.six)

  module _ (window table : List ℕ) where
    piece_byte : (q stop i : ℕ) → first ≤ q → stop ≤ end → stop ≤ q / 4096 * 4096 + 4096 → i < stop - q
        → get_or table (get_or (take (stop - q) (drop (place_at q - start) window)) i 0) 0 ≡ column_byte window table n first end start c (q - first + i)
    unfolding column_byte data_place
    piece_byte q stop i f e b h =
        let k : first + (q - first + i) ≡ q + i = omega arith in
        let p : place_at q - start + i ≡ place_at (q + i) - start = omega (arith, run q i (omega arith), above q f) in
        rw (get_or-take (stop - q) (drop (place_at q - start) window) i 0 h, get_or-drop (place_at q - start) window i 0, p, k)
        (sym (pick (ltb (q + i) end) (get_or table (get_or window (place_at (q + i) - start) 0) 0) idle (lt→ltb (q + i) end (omega arith))))

    idle_byte : (i : ℕ) → idle ≡ column_byte window table n first end start c (end - first + i)
    unfolding column_byte
    idle_byte i = sym (skip (ltb (first + (end - first + i)) end) _ _ (λ t. omega (arith, ltb→lt (first + (end - first + i)) end t, a.some)))

    -- what the loop over the pieces does
    module _ (size_is : length window ≡ size) (q stop : ℕ) (f : first ≤ q) (h : q < stop) (e : stop ≤ end) (b : stop ≤ q / 4096 * 4096 + 4096) where
      abbrev part : List ℕ
      part = take (place_at q - start + (stop - q) - (place_at q - start)) (drop (place_at q - start) window)

      k : place_at q - start + (stop - q) - (place_at q - start) ≡ stop - q
      k = omega arith

      long_from : (from : ℕ) → from + (stop - q) ≤ size → length (take (from + (stop - q) - from) (drop from window)) ≡ stop - q
      long_from from g =
          let z : from + (stop - q) - from ≡ stop - q = omega arith in
          rw z (length-take-le (stop - q) (drop from window) (omega (arith, length-drop from window)))

      long : length part ≡ stop - q
      long = long_from (place_at q - start) (within q stop f h e b)

      -- a piece of so many bytes, from wherever it is taken, goes into the buffer
      pub piece_fits : (from : ℕ) → from + (stop - q) ≤ size → (q - first) * n + c + length (take (from + (stop - q) - from) (drop from window)) * n < out + n
      piece_fits from g = rw (long_from from g) (cells (q - first) (stop - q) (omega (arith, a.most)))

      pub piece : {old mid new : List ℕ} → Written 0 (λ i. c + i * n) (column_byte window table n first end start c) (q - first) old mid
          → Written 0 (λ i. (q - first) * n + c + i * n) (λ i. get_or table (get_or part i 0) 0) (length part) mid new
          → Written 0 (λ i. c + i * n) (column_byte window table n first end start c) (stop - first) old new
      piece w p =
          let r : q - first + length part ≡ stop - first = omega (arith, long) in
          rw r at (strided_then c n (omega (arith, a.channel)) ((q - first) * n + c) (omega arith) w p (λ i g. let m : i < stop - q = omega (arith, long) in rw k (piece_byte q stop i f e b m)))

    pub rest : {old mid new : List ℕ} → Written 0 (λ i. c + i * n) (column_byte window table n first end start c) (end - first) old mid
        → Written 0 (λ i. (end - first) * n + c + i * n) (λ i. idle) (first + 4704 - end) mid new → Written 0 (λ i. c + i * n) (column_byte window table n first end start c) 4704 old new
    rest w p =
        let r : end - first + (first + 4704 - end) ≡ 4704 = omega (arith, a.some, a.most) in
        rw r at (strided_then c n (omega (arith, a.channel)) ((end - first) * n + c) (omega arith) w p (λ i g. idle_byte i))
