-- Heads end to end, from a track on.
use Rattle.std.proofs.Common.{◌≡◌, ℕ, ◌+◌, ◌-◌, ◌*◌, ◌≤◌, ◌<◌, List, [], ◌∷◌, length, arith, refl}
use Rattle.numbers.specs.Lists.{tabulate}
use Rattle.numbers.proofs.Lists.{tabulate_join}
use Rattle.tracks.specs.Tracks.{head_at}
use Rattle.tracks_open.specs.inner.Trying.{heads_from}

pub head_within : (n k long : ℕ) → k < n → long ≡ 92 * n → 92 * k + 92 ≤ long
head_within n k long h e = omega (arith, e)

module _ (heads lengths : List ℕ) where
  pub front : (k : ℕ) → k < length lengths → heads_from heads lengths k ≡ head_at heads lengths k ∷ heads_from heads lengths (k + 1)
  unfolding tabulate
  front k h =
      let size : length lengths - k ≡ 1 + (length lengths - (k + 1)) = omega arith in
      let z : k + 0 ≡ k = omega arith in
      rw (size, tabulate_join (head_at heads lengths) k 1 (length lengths - (k + 1)), z) refl

  pub none_left : (k : ℕ) → length lengths ≤ k → heads_from heads lengths k ≡ []
  unfolding tabulate
  none_left k h = let z : length lengths - k ≡ 0 = omega arith in rw z refl
