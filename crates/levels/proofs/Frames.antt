-- What a converted frame tells is what the definition says of it.
use Rattle.std.proofs.Common.{◌≡◌, ap, ℕ, zero, suc, ◌+◌, ◌*◌, ◌/◌, ◌<◌, ◌≤◌, length, get_or, ℤ, pos, refl, ◌∙◌, add-zero, mod-eq_of_lt, one-mul, zero-add}
use Rattle.std.proofs.Common.{zero-mul, arith, lt-ltb}
use native.Mathlib.Nat.{mul-add-div_right, mul-add-mod_self_right, div-eq_of_lt, mul-div_left}
use lib.Arith.{digits_lt}
use Rattle.numbers.specs.Extremes.{lesser, greater, extreme}
use Rattle.numbers.specs.Lists.{total, count}
use Rattle.numbers.proofs.Extremes.{extreme_same}
use Rattle.numbers.proofs.Lists.{get_d_tabulate, length_tabulate, total_same, count_few}
use Rattle.reference.specs.Frames.{Run, frame_count}
use Rattle.reference.specs.Output.{samples_per_frame, sample, clipped, item, channel_samples, all_samples, samples, channel_clips, channel_stats, stats, frame_clips}
use Rattle.reference.specs.Statistics.{channel_of, clip_sum}
use Rattle.reference.proofs.Statistics.{at_channel}
use Rattle.reference.specs.declared.Converter.{Converter}
use Rattle.reference.proofs.Frames.{some_samples, frame_samples}
use Rattle.overs.specs.Overs.{Progress, overs_of}
use Rattle.channel_levels.specs.inner.Channels.{level_of}
use Rattle.levels.specs.Levels.{level}

module _ (conv : Converter) (r : Run) (some : 0 < conv.channels) (few : conv.channels ≤ 6) (one : frame_count conv.channels r.frames ≡ 1) where
  abbrev ch : ℕ
  ch = conv.channels

  abbrev per : ℕ
  per = samples_per_frame conv.rate

  pub in_all : all_samples conv r ≡ per * ch
  unfolding all_samples channel_samples
  in_all = rw (one, one-mul per) refl

  each : length (samples conv r) / ch ≡ per
  unfolding samples
  each = rw (length_tabulate (item conv r) 0 (all_samples conv r), in_all) (mul-div_left per some)

  sample_at : (c : ℕ) → c < ch → (n : ℕ) → n < per → get_or (samples conv r) (n * ch + c) (pos 0) ≡ sample conv r c n
  unfolding samples item
  sample_at c l n h =
      get_d_tabulate (item conv r) 0 _ (n * ch + c) (pos 0) (rw in_all (digits_lt h l))
      ∙ rw (zero-add (n * ch + c), mul-add-mod_self_right n ch c, mod-eq_of_lt l, mul-add-div_right some n c, div-eq_of_lt l, add-zero n) refl

  clips_at : (c : ℕ) → c < ch → (channel_of (stats conv r) c).clipped ≡ count (clipped conv r c) (0 * per) per
  unfolding stats channel_stats channel_of channel_clips channel_samples
  clips_at c l =
      ap (λ t. t.clipped) (at_channel (channel_stats conv r) c (omega arith)) ∙ rw (lt-ltb c ch l, one, one-mul per, zero-mul per) refl

  pub level_is : (c : ℕ) → c < ch → (p : Progress) → level_of (channel_of (stats conv r) c).clipped (samples conv r) ch c p ≡ level conv r (overs_of (samples conv r) ch c p).count 0 c
  unfolding level level_of
  level_is c l p =
      let pick : (p : ℤ → ℤ → ℤ) → extreme p (λ n. get_or (samples conv r) (n * ch + c) (pos 0)) 0 per ≡ extreme p (sample conv r c) (0 * per) per =
      λ p. extreme_same p (λ n. get_or (samples conv r) (n * ch + c) (pos 0)) (sample conv r c) 0 (0 * per) per (some_samples conv.rate) (λ k h. rw (zero-mul per, zero-add k) (sample_at c l k h)) in
      rw (clips_at c l, each, pick lesser, pick greater) refl

  pub clips_are : clip_sum (stats conv r) ch ≡ frame_clips conv r 0
  unfolding clip_sum frame_clips
  clips_are = total_same _ _ 0 0 ch (λ k h. rw zero-add (clips_at k h))

  -- no frame of a channel has more clips than samples
  few_clips : (c : ℕ) → c < ch → (channel_of (stats conv r) c).clipped ≤ 4704
  few_clips c l = rw (clips_at c l) (omega (arith, count_few (clipped conv r c) (0 * per) per, frame_samples conv.rate))

  pub few_below : (n : ℕ) → n ≤ ch → clip_sum (stats conv r) n ≤ 4704 * n
  unfolding clip_sum total
  few_below zero l = omega arith
  few_below (suc n) l = rw (zero-add n) (omega (arith, few_below n (omega arith), few_clips n (omega arith)))
