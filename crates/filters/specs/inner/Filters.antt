-- Filters over blocks: what each place of the output holds, and what the taps and the values must keep.
use Rattle.std.specs.Prelude.{◌≡◌, List, [], ◌∷◌, ℕ, ◌+◌, ◌-◌, ◌*◌, ◌/◌, ◌^◌, ◌≤◌, ◌<◌, ℤ, pos, nat_abs, ◌+ℤ◌, ◌*ℤ◌, length}
use Rattle.numbers.specs.Sums.{sum_to, at0}
use Rattle.numbers.specs.Lists.{tabulate}
use Rattle.reference.specs.Stages.{tap, M, fir}
use Rattle.lanes.specs.inner.Lanes.{Small}

-- ---- taps

-- the taps at even places, and at odd ones
unfoldable pub even_taps : List ℤ → List ℤ
even_taps h = tabulate (λ k. tap h (2 * k)) 0 ((length h + 1) / 2)

unfoldable pub odd_taps : List ℤ → List ℤ
odd_taps h = tabulate (λ k. tap h (2 * k + 1)) 0 (length h / 2)

-- the even taps of a half band: the centre, all others being 0
abbrev pub alone : List ℤ
alone = pos 8388608 ∷ []

-- ---- sums

-- the sum between s(k) and s(k + 1) with the odd taps h: `between` of the reference has those of HB
unfoldable pub between_by : List ℤ → (ℕ → ℤ) → ℕ → ℤ
between_by h s k = sum_to (length h) (λ j. tap h j *ℤ (s (k - j) +ℤ s (k + 1 + j)))

-- at place i of the output: around place i + M of the block x
unfoldable pub same_rate : List ℤ → List ℤ → ℕ → ℤ
same_rate h x i = fir h (at0 x) (i + M h)

-- between two places of x
unfoldable pub middle : List ℤ → List ℤ → ℕ → ℤ
middle h x i = between_by h (at0 x) (i + length h - 1)

-- at half the rate, by the even and the odd taps, over the even and the odd places
unfoldable pub half_rate : List ℤ → List ℤ → List ℤ → List ℤ → ℕ → ℤ
half_rate he ho xe xo i = same_rate he xe i +ℤ middle ho xo i

-- every second value of x, from place f on
unfoldable pub seconds : ℕ → List ℤ → List ℤ
seconds f x = tabulate (λ k. at0 x (2 * k + f)) 0 ((length x + 1 - f) / 2)

-- ---- what is asked

-- none of the first n sums is over 2^53 in size
pub record Fit (F : ℕ → ℤ) (n : ℕ) : Type 0 where
  pub fits : (i : ℕ) → i < n → nat_abs (F i) ≤ 2 ^ 53

abbrev pub ones : ℕ → ℤ
ones k = pos 1

-- the taps, each as often as it is used, sum to 2^24: a signal of ones becomes 2^24, at any place
pub record UnityGain (h : List ℤ) : Type 0 where
  pub small : Small (2 ^ 25) h
  pub whole : fir h ones (M h) ≡ pos (2 ^ 24)

-- the even and the odd taps together
pub record Phases (he ho : List ℤ) : Type 0 where
  pub small_even : Small (2 ^ 25) he
  pub small_odd : Small (2 ^ 25) ho
  pub whole : fir he ones (M he) +ℤ between_by ho ones (length ho) ≡ pos (2 ^ 24)

-- the odd taps of a half band
pub record Between (h : List ℤ) : Type 0 where
  pub small : Small (2 ^ 25) h
  pub whole : between_by h ones (length h) ≡ pos (2 ^ 23)
