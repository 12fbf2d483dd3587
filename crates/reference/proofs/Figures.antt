-- The marked figures hold.
use Rattle.std.proofs.Common.{◌≡◌, refl, ap, ◌∙◌, ◌++◌, map, Bool, true, false, cond, ℕ, zero, suc, ◌+◌, ◌-◌, ◌*◌, ◌/◌, ◌%◌, ◌<◌, zero-add, arith, le-ltb, lit≤}
use Rattle.std.proofs.Common.{ℤ, pos, negsuc, replicate}
use lib.Ieee.{of_int, of_bits, mul, div, add, lt}
use lib.ListN.{length-replicate, get_or-replicate, replicate-append-replicate}
use Rattle.numbers.specs.Lists.{Each, tabulate}
use Rattle.numbers.specs.Sums.{sum_to}
use Rattle.numbers.proofs.Lists.{tabulate_constant, total_none}
use Rattle.reference.specs.Rounding.{rest, nearer, R}
use Rattle.reference.specs.Taps.{S1, HB, F40}
use Rattle.reference.specs.Frames.{Run, frame_count, neighbour, sequence, channel_byte}
use Rattle.reference.specs.Stages.{fir, bit, sign, entry, x, u, w, y_narrow, y, reach}
use Rattle.reference.specs.Scaling.{whole, LN_10, magnitude, exponent, series, squared, db_to_linear, eighth, scaled, clamp, clips}
use Rattle.reference.specs.Settings.{filter_of, converter_of}
use Rattle.reference.specs.Output.{samples_per_frame, unclamped, sample, clipped, item, channel_samples, all_samples, samples, channel_clips, channel_stats, stats}
use Rattle.reference.specs.declared.PcmRate.TheVariants.{Hz88200}
use Rattle.reference.specs.declared.Cutoff.TheVariants.{Standard}
use Rattle.reference.specs.Figures.{mono, one_byte, frame_of, Holds, figures}
use Rattle.reference.proofs.Locality.{F40_last, y_same}
use Rattle.reference.proofs.Constant.{w_constant}
use Rattle.reference.proofs.Filters.{built_in_taps}

-- the value of w at Standard where every byte is b, computed
abbrev level : ℕ → ℤ
level b = R (fir F40 (λ _. R (fir HB (λ _. u S1 (λ _. b) 4) 0) 24) 0) 24

-- a frame among three of byte b
module _ (b : ℕ) (r : Run) (bytes : (p : ℕ) → p < 14112 → channel_byte 1 (sequence 1 r) 0 p ≡ b) (one : frame_count 1 r.frames ≡ 1)
    (z : ℤ) (unchanged : scaled mono.gain.linear (level b) ≡ z) (inside : clamp z ≡ z) (no-clip : clips z ≡ false) where
  y_is : (k : ℕ) → k < 1176 → y Hz88200 Standard F40 (channel_byte 1 (sequence 1 r) 0) (1176 + k) ≡ level b
  unfolding y y_narrow samples_per_frame reach F40
  y_is k l =
      y_same 1 (channel_byte 1 (sequence 1 r) 0) 1 (λ _. b) 1 Hz88200 Standard F40
      (record { room = lit≤ tt; room' = lit≤ tt; same = λ p m. bytes (4704 * 1 - 139 + p) (omega arith) }) k (omega arith)
      ∙ ap (w F40 (λ _. b)) (omega (arith, F40_last))
      ∙ w_constant b F40 (2282 + 2 * k)

  unclamped_is : (k : ℕ) → k < 1176 → unclamped mono r 0 k ≡ z
  unfolding unclamped mono converter_of filter_of samples_per_frame
  unclamped_is k l =
      ap (λ F. scaled mono.gain.linear (y Hz88200 Standard F (channel_byte 1 (sequence 1 r) 0) (1176 + k))) built_in_taps
      ∙ ap (scaled _) (y_is k l)
      ∙ unchanged

  channel_is : channel_samples mono r ≡ 1176
  unfolding channel_samples mono converter_of filter_of samples_per_frame
  channel_is = omega (arith, one)

  all_is : all_samples mono r ≡ 1176
  unfolding all_samples mono converter_of filter_of
  all_is = omega (arith, channel_is)

  samples_are : samples mono r ≡ replicate 1176 z
  unfolding samples item sample mono converter_of filter_of
  samples_are =
      rw all_is
      (tabulate_constant (item mono r) 0 1176 z (λ k l.
      let d : (0 + k) / 1 ≡ k = omega arith in
      let m : (0 + k) % 1 ≡ 0 = omega arith in
      rw (d, m, unclamped_is k l) inside))

  clips_are : (c : ℕ) → channel_clips mono r c ≡ 0
  unfolding channel_clips clipped mono converter_of filter_of
  clips_are zero = rw channel_is (total_none (λ k. cond (clipped mono r 0 k) 1 0) 0 1176 (λ k l. rw zero-add (rw (unclamped_is k l, no-clip))))
  clips_are (suc c) = rw (le-ltb (suc c) 1 (omega arith))

  none_clipped : map (λ c. c.clipped) (stats mono r).channels ≡ replicate 6 0
  unfolding stats channel_stats tabulate
  none_clipped = rw (clips_are 0, clips_are 1, clips_are 2, clips_are 3, clips_are 4, clips_are 5) refl

-- ---- the rows

three_frames : (n b p : ℕ) → p < n + (n + n) → channel_byte 1 (replicate n b ++ (replicate n b ++ replicate n b)) 0 p ≡ b
unfolding channel_byte
three_frames n b p l =
    let i : p * 1 + 0 ≡ p = omega arith in
    rw (replicate-append-replicate n n b, replicate-append-replicate n (n + n) b, i) (get_or-replicate (n + (n + n)) p b _ l)

one_frame_long : (n b : ℕ) → n ≡ 4704 → frame_count 1 (replicate n b) ≡ 1
unfolding frame_count
one_frame_long n b e = rw (length-replicate n b, e)

-- 0 dB is the factor 1
unity : mono.gain.linear ≡ whole 1
unfolding mono converter_of filter_of db_to_linear exponent magnitude series squared LN_10 of_int of_bits mul div add lt
unity = refl

-- a level that every filter after the first keeps
kept : (b : ℕ) (z : ℤ) → u S1 (λ _. b) 4 ≡ z → R (fir HB (λ _. z) 0) 24 ≡ z → R (fir F40 (λ _. z) 0) 24 ≡ z → level b ≡ z
kept b z e f g = ap (λ a. R (fir F40 (λ _. R (fir HB (λ _. a) 0) 24) 0) 24) e ∙ ap (λ a. R (fir F40 (λ _. a) 0) 24) f ∙ g

zeros : level 0x00 ≡ negsuc 67108863
unfolding R rest nearer fir sum_to u x bit sign S1 HB F40
zeros = kept 0x00 (negsuc 67108863) refl refl refl

idles : level 0x69 ≡ pos 0
unfolding R rest nearer fir sum_to u x bit sign S1 HB F40
idles = kept 0x69 (pos 0) refl refl refl

row : (b : ℕ) (there : Bool) (z : ℤ) → scaled (whole 1) (level b) ≡ z → clamp z ≡ z → clips z ≡ false
    → ((p : ℕ) → p < 14112 → channel_byte 1 (sequence 1 (one_byte b there)) 0 p ≡ b) → frame_count 1 (one_byte b there).frames ≡ 1 → Holds (frame_of b there z)
row b there z e inside no-clip bytes one =
    let gained : scaled mono.gain.linear (level b) ≡ z = ap (λ f. scaled f (level b)) unity ∙ e in
    (samples_are b (one_byte b there) bytes one z gained inside no-clip, none_clipped b (one_byte b there) bytes one z gained inside no-clip)

silent : Holds (frame_of 0x00 true (negsuc 8388607))
unfolding one_byte sequence neighbour scaled eighth clamp clips of_int mul
silent = row 0x00 true (negsuc 8388607) (ap (scaled (whole 1)) zeros ∙ refl) refl refl (λ p l. three_frames 4704 0x00 p l) (one_frame_long 4704 0x00 refl)

idling : Holds (frame_of 0x69 false (pos 0))
unfolding one_byte sequence neighbour scaled eighth clamp clips of_int mul
idling = row 0x69 false (pos 0) (ap (scaled (whole 1)) idles ∙ refl) refl refl (λ p l. three_frames 4704 0x69 p l) (one_frame_long 4704 0x69 refl)

pub figures_hold : Each Holds figures
unfolding figures R rest nearer entry bit sign sum_to S1
figures_hold = (refl, (refl, (refl, (refl, (refl, (refl, (refl, (refl, (refl, (silent, (idling, tt)))))))))))
