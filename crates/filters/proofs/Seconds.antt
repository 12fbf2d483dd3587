-- A filter at half the rate over one array: what `dec2` sums is the reference's sum, for an even and for an odd number
-- of taps.
use Rattle.std.proofs.Common.{◌≡◌, ◌∙◌, ap, List, ⊎_elim, ℕ, ◌+◌, ◌-◌, ◌*◌, ◌%◌, ◌<◌, ◌≤◌, arith, ℤ, ◌*ℤ◌, length}
use Rattle.numbers.specs.Sums.{apart, at0}
use Rattle.numbers.proofs.Sums.{sum_same}
use Rattle.numbers.proofs.Lists.{below_or}
use Rattle.reference.specs.Stages.{tap, M, fir}
use Rattle.filters.specs.inner.Filters.{even_taps, odd_taps, half_rate, seconds}
use Rattle.filters.proofs.Places.{second_at}
use Rattle.filters.proofs.Signals.{split_halves, half_signal, length_even, length_odd}

-- a signal begun a place later
fir_later : (h : List ℤ) (s : ℕ → ℤ) (c : ℕ) → M h ≤ c → fir h (λ k. s (k - 1)) (c + 1) ≡ fir h s c
unfolding fir
fir_later h s c l = sum_same (M h + M h + 1) _ _ (λ k m. ap (λ (j : ℕ). tap h (apart k (M h)) *ℤ s j) (omega arith))

module _ (F x : List ℤ) (some : 0 < length F) (i : ℕ) (room : 2 * i + 2 * M F < length x) where
  -- an odd number of taps: the centre lies at an even place
  odd_count : length F % 2 ≡ 1 → half_rate (even_taps F) (odd_taps F) (seconds 0 x) (seconds 1 x) i ≡ fir F (at0 x) (2 * i + M F)
  odd_count r =
      half_signal (split_halves F) (at0 x) {E = 0} {D = 0}
      (record { is = λ k m. second_at 0 x k m ∙ ap (at0 x) (omega arith) })
      (record { is = λ k m. second_at 1 x k m ∙ ap (at0 x) (omega arith) })
      (omega (arith, length_even F, length_odd F))
      i (omega (arith, length_even F)) (omega (arith, length_odd F))
      ∙ ap (fir F (at0 x)) (omega (arith, length_even F))

  even_count : length F % 2 ≡ 0 → half_rate (even_taps F) (odd_taps F) (seconds 1 x) (seconds 0 x) i ≡ fir F (at0 x) (2 * i + M F)
  even_count r =
      half_signal (split_halves F) (λ k. at0 x (k - 1)) {E = 1} {D = 0}
      (record { is = λ k m. second_at 1 x k m ∙ ap (at0 x) (omega arith) })
      (record { is = λ k m. second_at 0 x k m ∙ ap (at0 x) (omega arith) })
      (omega (arith, length_even F, length_odd F))
      i (omega (arith, length_even F)) (omega (arith, length_odd F))
      ∙ ap (fir F (λ k. at0 x (k - 1))) (omega (arith, length_even F))
      ∙ fir_later F (at0 x) (2 * i + M F) (omega arith)

  pub decimated : half_rate (even_taps F) (odd_taps F) (seconds (length (odd_taps F) + 1 - length (even_taps F)) x)
      (seconds (length (even_taps F) - length (odd_taps F)) x) i ≡ fir F (at0 x) (2 * i + M F)
  decimated =
      ⊎_elim
      (λ (l : length F % 2 < 1).
      let f : length (odd_taps F) + 1 - length (even_taps F) ≡ 1 = omega (arith, length_even F, length_odd F) in
      let g : length (even_taps F) - length (odd_taps F) ≡ 0 = omega (arith, length_even F, length_odd F) in
      rw (f, g) (even_count (omega arith)))
      (λ (l : 1 ≤ length F % 2).
      let f : length (odd_taps F) + 1 - length (even_taps F) ≡ 0 = omega (arith, length_even F, length_odd F) in
      let g : length (even_taps F) - length (odd_taps F) ≡ 1 = omega (arith, length_even F, length_odd F) in
      rw (f, g) (odd_count (omega arith)))
      (below_or (length F % 2) 1)
