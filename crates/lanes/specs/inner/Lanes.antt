-- L places of the output at a time, the lanes, gain taps over a copy of the block: what they gain, and what they keep.
use Rattle.std.specs.Prelude.{◌≡◌, List, ℕ, ◌+◌, ◌-◌, ◌*◌, ◌^◌, ◌≤◌, ◌<◌, ℤ, pos, nat_abs, ◌+ℤ◌, ◌*ℤ◌, length, get_or}
use Rattle.numbers.specs.Sums.{sum_to, at0}
use Rattle.numbers.specs.inner.Lists.{Written}
use Rattle.reference.specs.Stages.{tap}

-- no number is over B in size
pub record Small (B : ℕ) (l : List ℤ) : Type 0 where
  pub size : (i : ℕ) → nat_abs (at0 l i) ≤ B

-- what a place of the copy holds
unfoldable pub copied : List ℕ → ℕ → ℤ
copied v k = pos (get_or v k 0)

-- no number of the copy is over 2^30
pub record Low (v : List ℕ) : Type 0 where
  pub size : (k : ℕ) → get_or v k 0 ≤ 2 ^ 30

-- tap k with the two values at its distance below `down` and above `up`
abbrev pub arm : List ℤ → (ℕ → ℤ) → ℕ → ℕ → ℕ → ℤ
arm h s down up k = tap h k *ℤ (s (down - k) +ℤ s (up + k))

-- n taps from place `from` on
unfoldable pub arms : List ℤ → (ℕ → ℤ) → ℕ → ℕ → ℕ → ℕ → ℤ
arms h s from down up n = sum_to n (λ k. arm h s down up (from + k))

-- n taps, every fourth from place `from` on, each with the one two places after it
unfoldable pub fourths : List ℤ → (ℕ → ℤ) → ℕ → ℕ → ℕ → ℕ → ℤ
fourths h s from down up n = sum_to n (λ k. arm h s down up (from + 4 * k) +ℤ arm h s down up (from + 4 * k + 2))

-- none of L lanes is over B in size
pub record Lanes (L B : ℕ) (s : List ℤ) : Type 0 where
  pub size : (l : ℕ) → l < L → nat_abs (at0 s l) ≤ B

-- L lanes have gained g
pub record Added (L : ℕ) (g : ℕ → ℤ) (old new : List ℤ) : Type 0 where
  pub is : (l : ℕ) → l < L → at0 new l ≡ at0 old l +ℤ g l

-- every place of the output holds f
abbrev pub Filled : (ℕ → ℤ) → List ℤ → List ℤ → Type 0
Filled f old new = Written (pos 0) (λ k. k) f (length old) old new
