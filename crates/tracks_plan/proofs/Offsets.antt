-- Where tracks begin.
use Rattle.std.proofs.Common.{◌≡◌, ℕ, zero, suc, ◌+◌, ◌-◌, ◌≤◌, ◌<◌, List, [], ◌∷◌, ◌++◌, length, drop, arith, sym, ap, ◌∙◌, drop_at}
use Rattle.numbers.specs.Lists.{tabulate}
use Rattle.numbers.proofs.Lists.{tabulate_join, length_tabulate}
use Rattle.tracks.specs.Tracks.{Head, head_at, heads_of, head_length, all_length, offset}
use Rattle.tracks_open.specs.inner.Trying.{heads_from}
use Rattle.tracks_open.proofs.Heads.{front}

-- the first k tracks, and the others
pub parted : (k : ℕ) (hs : List Head) → all_length hs ≡ offset hs k + all_length (drop k hs)
unfolding offset all_length
parted zero hs = omega arith
parted (suc k) [] = omega arith
parted (suc k) (h ∷ hs) = omega (arith, parted k hs)

module _ (heads lengths : List ℕ) where
  others : (k : ℕ) → k ≤ length lengths → drop k (heads_of heads lengths) ≡ heads_from heads lengths k
  unfolding heads_of
  others k h =
      let f = head_at heads lengths in
      let size : k + (length lengths - k) ≡ length lengths = omega arith in
      let z : 0 + k ≡ k = omega arith in
      let whole : tabulate f 0 (length lengths) ≡ tabulate f 0 k ++ tabulate f k (length lengths - k) = ap (tabulate f 0) (sym size) ∙ rw z at (tabulate_join f 0 k (length lengths - k)) in
      rw whole (drop_at (tabulate f 0 k) (tabulate f k (length lengths - k)) k (length_tabulate f 0 k))

  pub offset_is : (k : ℕ) → k ≤ length lengths → all_length (heads_of heads lengths) ≡ offset (heads_of heads lengths) k + all_length (heads_from heads lengths k)
  offset_is k h = rw (← others k h) (parted k (heads_of heads lengths))

  pub offset_next : (k : ℕ) → k < length lengths → offset (heads_of heads lengths) (k + 1) ≡ offset (heads_of heads lengths) k + head_length (head_at heads lengths k)
  unfolding all_length
  offset_next k h = omega (arith, offset_is k (omega arith), offset_is (k + 1) (omega arith), ap all_length (front heads lengths k h))

  pub offset_most : (k : ℕ) → k ≤ length lengths → offset (heads_of heads lengths) k ≤ all_length (heads_of heads lengths)
  offset_most k h = omega (arith, offset_is k h)
