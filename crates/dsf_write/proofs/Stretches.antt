-- A file is its header and the data of stretches of its frames.
use Rattle.std.proofs.Common.{◌≡◌, refl, sym, ap, ◌∙◌, List, [], ◌∷◌, ◌++◌, append_assoc, ⊎_elim, ℕ, suc, ◌+◌, ◌*◌, ◌/◌, ◌%◌, ◌≤◌, ◌<◌, add-mul, mul_assoc}
use Rattle.std.proofs.Common.{mul-le-mul_right, zero-add, arith, lt-ltb, le-ltb, length, length-append, get_or-append-add, map}
use native.Mathlib.Nat.{mul-add-mod_self_right, mul-add-div_right}
use lib.ListN.{get_or-append}
use Rattle.numbers.specs.Lists.{tabulate, Each}
use Rattle.numbers.proofs.Lists.{below_or, length_tabulate, tabulate_join, tabulate_same}
use Rattle.reference.specs.Frames.{frame_count}
use Rattle.text.specs.Text.{joined}
use Rattle.dsf.specs.Dsf.{blocks, data_bytes, turned}
use Rattle.dsf_columns.proofs.Blocks.{group}
use Rattle.dsf_write.specs.Written.{data_channel, data_byte, written_channel, written_data, written_byte, head, laid_out, written}
use Rattle.dsf_write.specs.Theorems.{WholeBlocks, WrittenStretches}
use Rattle.dsf_write.proofs.Places.{channel_below, byte_below}

pub length_laid : (n : ℕ) (fr : List ℕ) → length (laid_out n fr) ≡ written_data n fr
unfolding laid_out
length_laid n fr = length_tabulate (written_byte n fr) 0 (written_data n fr)

-- header and data
pub written_parts : (n : ℕ) (fr : List ℕ) → written n fr ≡ head n (length fr) ++ laid_out n fr
unfolding written head laid_out written_data written_channel frame_count
written_parts n fr = refl

-- ---- a stretch of whole blocks, and the frames after it
module _ (n : ℕ) (fr gs : List ℕ) (one : 1 ≤ n) (w : WholeBlocks n fr) where
  -- groups of blocks, a channel's bytes, and those of the frames after them
  abbrev k : ℕ
  k = frame_count n fr / 128 * 147

  abbrev m : ℕ
  m = written_channel n gs

  here : written_channel n fr ≡ k * 4096
  unfolding written_channel
  here = omega (arith, w.blocks)

  long : length fr ≡ k * 4096 * n
  unfolding written_channel
  long = w.whole ∙ sym (mul_assoc (frame_count n fr) 4704 n) ∙ ap (λ (x : ℕ). x * n) here

  both : written_channel n (fr ++ gs) ≡ k * 4096 + m
  unfolding written_channel frame_count
  both =
      let l : length (fr ++ gs) ≡ length fr / (4704 * n) * (4704 * n) + length gs = length-append fr gs ∙ ap (λ (x : ℕ). x + length gs) w.whole in
      let c : length (fr ++ gs) / (4704 * n) ≡ length fr / (4704 * n) + length gs / (4704 * n) =
      ap (λ (x : ℕ). x / (4704 * n)) l ∙ mul-add-div_right (omega arith) (length fr / (4704 * n)) (length gs) in
      rw c (omega (arith, here))

  -- bytes of the data
  abbrev d : ℕ
  d = k * 4096 * n

  data_here : written_data n fr ≡ d
  unfolding written_data data_bytes blocks
  data_here = let e : (8 * written_channel n fr / 8 + 4095) / 4096 * 4096 ≡ k * 4096 = omega (arith, here) in ap (λ (x : ℕ). x * n) e

  data_both : written_data n (fr ++ gs) ≡ d + written_data n gs
  unfolding written_data data_bytes blocks
  data_both =
      let e : (8 * written_channel n (fr ++ gs) / 8 + 4095) / 4096 * 4096 ≡ k * 4096 + (8 * m / 8 + 4095) / 4096 * 4096 = omega (arith, both) in
      ap (λ (x : ℕ). x * n) e ∙ add-mul (k * 4096) ((8 * m / 8 + 4095) / 4096 * 4096) n

  in_stretch : (j : ℕ) → j < d → written_byte n (fr ++ gs) j ≡ written_byte n fr j
  unfolding written_byte
  in_stretch j l =
      let q = data_byte n j in
      let c = data_channel n j in
      let b : q < k * 4096 = byte_below n j one k l in
      let s : suc q * n ≤ k * 4096 * n = mul-le-mul_right n (omega arith) in
      let p : q * n + c < length fr = omega (arith, long, channel_below n j one, add-mul q 1 n, s) in
      rw (both, here, lt-ltb q (k * 4096) b, lt-ltb q (k * 4096 + m) (omega arith)) (ap turned (get_or-append fr gs 0 (q * n + c) p))

  module _ (i : ℕ) where
    block_on : (d + i) / 4096 ≡ k * n + i / 4096
    block_on = omega (arith, group k n)

    channel_on : data_channel n (d + i) ≡ data_channel n i
    unfolding data_channel
    channel_on = ap (λ (x : ℕ). x % n) block_on ∙ mul-add-mod_self_right k n (i / 4096)

    byte_on : data_byte n (d + i) ≡ k * 4096 + data_byte n i
    unfolding data_byte
    byte_on =
        let e : (d + i) / 4096 / n ≡ k + i / 4096 / n = ap (λ (x : ℕ). x / n) block_on ∙ mul-add-div_right one k (i / 4096) in
        rw e (omega (arith, group k n))

    place_on : (k * 4096 + data_byte n i) * n + data_channel n i ≡ length fr + (data_byte n i * n + data_channel n i)
    place_on = omega (arith, long, add-mul (k * 4096) (data_byte n i) n)

    after_stretch : written_byte n (fr ++ gs) (d + i) ≡ written_byte n gs i
    unfolding written_byte
    after_stretch =
        let q = data_byte n i in
        rw (both, byte_on, channel_on, place_on, get_or-append-add fr gs (q * n + data_channel n i) 0)
        (⊎_elim (λ less. rw (lt-ltb q m less, lt-ltb (k * 4096 + q) (k * 4096 + m) (omega arith)) refl)
        (λ more. rw (le-ltb q m more, le-ltb (k * 4096 + q) (k * 4096 + m) (omega arith)) refl)
        (below_or q m))

  pub laid_parts : laid_out n (fr ++ gs) ≡ laid_out n fr ++ laid_out n gs
  unfolding laid_out
  laid_parts =
      let f = written_byte n (fr ++ gs) in
      let z : 0 + d ≡ d = omega arith in
      let front : tabulate f 0 d ≡ tabulate (written_byte n fr) 0 d = tabulate_same _ _ 0 0 d (λ j l. rw (zero-add j) (in_stretch j l)) in
      let back : tabulate f d (written_data n gs) ≡ tabulate (written_byte n gs) 0 (written_data n gs) = tabulate_same _ _ d 0 (written_data n gs) (λ i l. rw (zero-add i) (after_stretch i)) in
      rw (data_both, data_here) (tabulate_join f 0 d (written_data n gs) ∙ rw (z, front, back) refl)

laid_stretches : (n : ℕ) (stretches : List (List ℕ)) (last : List ℕ) → 1 ≤ n → Each (WholeBlocks n) stretches
    → laid_out n (joined stretches ++ last) ≡ joined (map (laid_out n) stretches) ++ laid_out n last
unfolding joined
laid_stretches n [] last one e = refl
laid_stretches n (s ∷ ss) last one e =
    ap (laid_out n) (append_assoc s (joined ss) last)
    ∙ laid_parts n s (joined ss ++ last) one e.0
    ∙ ap (λ (x : List ℕ). laid_out n s ++ x) (laid_stretches n ss last one e.1)
    ∙ sym (append_assoc (laid_out n s) (joined (map (laid_out n) ss)) (laid_out n last))

pub written_stretches : WrittenStretches
written_stretches n stretches last one e =
    written_parts n (joined stretches ++ last) ∙ ap (λ (x : List ℕ). head n (length (joined stretches ++ last)) ++ x) (laid_stretches n stretches last one e)
