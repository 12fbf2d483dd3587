-- Arrays of stage values: parts, two in turn, and from u in two parts to v by the half band.
use Rattle.std.proofs.Common.{◌≡◌, ◌∙◌, ap, List, ℕ, ◌+◌, ◌-◌, ◌*◌, ◌/◌, ◌%◌, ◌^◌, ◌≤◌, ◌<◌, arith, lit<, lit≤, ℤ, pos, nat_abs, length, get_or}
use Rattle.numbers.specs.Sums.{at0}
use Rattle.numbers.specs.inner.Lists.{Held}
use Rattle.numbers.specs.inner.Parts.{evens, odds, interleaved}
use Rattle.reference.specs.Rounding.{R}
use Rattle.reference.specs.Taps.{S1, S1_WIDE, HB}
use Rattle.reference.specs.Stages.{M, fir, u, v}
use Rattle.reference.proofs.Locality.{S1_length, S1_WIDE_length}
use Rattle.reference.proofs.Sizes.{fir_size, u_S1_size, u_WIDE_size, v_size}
use Rattle.lanes.specs.inner.Lanes.{Small, Filled}
use Rattle.filters.specs.inner.Filters.{alone, odd_taps, half_rate, Fit}
use Rattle.filters.proofs.Signals.{held_small, half_fit, half_held, length_odd}
use Rattle.filters.proofs.Tables.{halves_HB, absolute_HB}
use Rattle.tables.specs.Tables.{ByteTables}
use Rattle.first_stage.specs.inner.Windows.{window_sum}
use Rattle.stages.proofs.First.{first_held}

-- the same values of another signal, or by another count of places
pub held_moved : {f g : ℕ → ℤ} {a b n : ℕ} {l : List ℤ} → Held (pos 0) f a n l → ((k : ℕ) → k < n → f (a + k) ≡ g (b + k)) → Held (pos 0) g b n l
held_moved h e = record { is = λ k m. h.is k m ∙ e k m }

-- any block of bytes is a block of some signal
pub any_bytes : (bytes : List ℕ) (base n : ℕ) → Held 0 (λ k. get_or bytes (k - base) 0) base n bytes
any_bytes bytes base n = record { is = λ k m. ap (λ (j : ℕ). get_or bytes j 0) (omega arith) }

-- two arrays in turn, at an even and at an odd place
pub interleaved_even : (even odd : List ℤ) (k : ℕ) → at0 even k ≡ interleaved even odd (0 + 2 * k)
unfolding interleaved
interleaved_even even odd k =
    let m : (0 + 2 * k) % 2 ≡ 0 = omega arith in
    let d : (0 + 2 * k) / 2 ≡ k = omega arith in
    rw (m, d)

pub interleaved_odd : (even odd : List ℤ) (k : ℕ) → at0 odd k ≡ interleaved even odd (0 + (2 * k + 1))
unfolding interleaved
interleaved_odd even odd k =
    let m : (0 + (2 * k + 1)) % 2 ≡ 1 = omega arith in
    let d : (0 + (2 * k + 1)) / 2 ≡ k = omega arith in
    rw (m, d)

odd_length : length (odd_taps HB) ≡ 8
unfolding HB
odd_length = length_odd HB

-- what the half band reads for v(i) and the values after it, n in all
pub record Around (β : ℕ → ℕ) (i n : ℕ) (even odd : List ℤ) : Type 0 where
  pub low : 8 ≤ i
  pub long_even : length even ≡ n
  pub long_odd : length odd ≡ n + 15
  pub at_even : Held (pos 0) (evens (u S1 β)) i n even
  pub at_odd : Held (pos 0) (odds (u S1 β)) (i - 8) (n + 15) odd

module _ {β : ℕ → ℕ} {i n : ℕ} {even odd : List ℤ} (a : Around β i n even odd) where
  small_even : Small (2 ^ 29) even
  small_even = held_small a.at_even (omega (arith, a.long_even)) (λ k. omega (arith, u_S1_size β (2 * k)))

  small_odd : Small (2 ^ 29) odd
  small_odd = held_small a.at_odd (omega (arith, a.long_odd)) (λ k. omega (arith, u_S1_size β (2 * k + 1)))

  seam : i + M alone ≡ i - 8 + length (odd_taps HB)
  seam = omega (arith, odd_length, a.low)

  sums : (c : ℕ) → nat_abs (fir HB (u S1 β) c) ≤ 2 ^ 53
  sums c = omega (arith, fir_size HB (u S1 β) c 84943204 (u_S1_size β), ap (λ k. k * 84943204) absolute_HB)

  -- what `half` asks
  pub asks : Small (2 ^ 29) even × (Small (2 ^ 29) odd × Fit (half_rate alone (odd_taps HB) even odd) (length even))
  asks = (small_even, (small_odd, half_fit halves_HB (u S1 β) a.at_even a.at_odd seam (length even) (omega (arith, a.long_even)) (omega (arith, a.long_even, odd_length)) sums))

  pub v_held : {new : List ℤ} → Filled (λ k. R (half_rate alone (odd_taps HB) even odd k) 24) even new → Held (pos 0) (v β) i n new
  unfolding v
  v_held filled =
      let h = half_held halves_HB (u S1 β) a.at_even a.at_odd seam filled (omega (arith, a.long_even)) (omega (arith, a.long_even, odd_length)) in
      held_moved (rw a.long_even at h) (λ k m. ap (v β) (omega arith))

-- the sums of every second window, from place 15 on and from place 0 on, are u at even and at odd places
pub around : {tables even odd : List ℤ} {bytes : List ℕ} {n : ℕ} → ByteTables S1 8 tables → ((j : ℕ) → get_or bytes j 0 < 256) → length bytes ≡ 2 * n + 36 → length even ≡ n → length odd ≡ n + 15
    → Held (pos 0) (λ k. window_sum tables 4 bytes (15 + 2 * k)) 0 n even → Held (pos 0) (λ k. window_sum tables 4 bytes (0 + 2 * k)) 0 (n + 15) odd
    → (β : ℕ → ℕ) (i : ℕ) → 10 ≤ i → Held 0 β (2 * i - 19) (length bytes) bytes → Around β i n even odd
around {n = n} rule byte long e o at_even at_odd β i l held =
    let stage = first_held 4 S1_length (lit< tt) rule byte held in
    record {
      low = omega arith;
      long_even = e;
      long_odd = o;
      at_even = held_moved (stage 15 2 n _ (omega (arith, long)) at_even) (λ k m. ap (u S1 β) (omega arith));
      at_odd = held_moved (stage 0 2 (n + 15) _ (omega (arith, long)) at_odd) (λ k m. ap (u S1 β) (omega arith));
    }

-- the bytes are of some signal
pub some_signal : {even odd : List ℤ} {bytes : List ℕ} {n : ℕ}
    → ((β : ℕ → ℕ) (i : ℕ) → 10 ≤ i → Held 0 β (2 * i - 19) (length bytes) bytes → Around β i n even odd) → Around (λ k. get_or bytes (k - 1) 0) 10 n even odd
some_signal {bytes = bytes} at = at (λ k. get_or bytes (k - 1) 0) 10 (lit≤ tt) (any_bytes bytes 1 (length bytes))

-- values of v are below 2^27
pub v_small : (β : ℕ → ℕ) (i : ℕ) {n : ℕ} {l : List ℤ} → length l ≤ n → Held (pos 0) (v β) i n l → Small (2 ^ 27) l
v_small β i e h = held_small h e (λ k. omega (arith, v_size β k))

-- ---- Wide: the sums of every window are u
module _ {tables new : List ℤ} {n : ℕ} (bytes : List ℕ) (rule : ByteTables S1_WIDE 12 tables) (byte : (i : ℕ) → get_or bytes i 0 < 256)
    (room : n + 11 ≤ length bytes) (sums : Held (pos 0) (λ k. window_sum tables 6 bytes (0 + 1 * k)) 0 n new) where
  pub wide_held : (β : ℕ → ℕ) (base i : ℕ) → base + 6 ≡ i → Held 0 β base (length bytes) bytes → Held (pos 0) (u S1_WIDE β) i n new
  wide_held β base i e held = held_moved (first_held 6 S1_WIDE_length (lit< tt) rule byte held 0 1 n new (omega arith) sums) (λ k m. ap (u S1_WIDE β) (omega arith))

  pub wide_small : length new ≤ n → Small (2 ^ 27) new
  wide_small l =
      let β : ℕ → ℕ = λ k. get_or bytes (k - 0) 0 in
      held_small (wide_held β 0 6 (omega arith) (any_bytes bytes 0 (length bytes))) l (λ k. omega (arith, u_WIDE_size β k))
