-- Numbers that fit the columns by their sizes.
use Rattle.std.proofs.Common.{◌≡◌, refl, ◌∙◌, false, ℕ, zero, suc, ◌*◌, ◌^◌, ◌≤◌, ◌<◌, zero-add, arith, le-ltb, ℤ, pos, negsuc, nat_abs, length, Option, Some}
use Rattle.std.proofs.Common.{None}
use Rattle.numbers.specs.Lists.{total}
use Rattle.reference.specs.Statistics.{channel_of, clip_sum}
use Rattle.reference.specs.declared.ConvertStats.{ConvertStats}
use Rattle.reference.specs.declared.Extremes.{Extremes}
use Rattle.text.specs.Text.{text, decimal, signed_decimal}
use Rattle.text.proofs.Numerals.{places}
use Rattle.columns.specs.Columns.{level_text, too_wide}
use Rattle.sheet.specs.Sheet.{lowest, highest, channel_line, some_below, sheet_too_wide}
use Rattle.sheet.proofs.Widths.{figures_wide, channel_wide, sum_wide}

signed_fits : (z : ℤ) → nat_abs z < 10 ^ 11 → length (signed_decimal z) ≤ 12
unfolding signed_decimal
signed_fits (pos n) h = omega (arith, places 10 n h)
signed_fits (negsuc n) h = omega (arith, places 10 (suc n) h)

level_fits : (z : ℤ) → nat_abs z < 10 ^ 11 → length (level_text (Some z)) ≤ 12
unfolding level_text
level_fits z h = signed_fits z h

-- counts and levels of these sizes
abbrev pub SmallExtremes : Option Extremes → Type 0
SmallExtremes None = Unit {0}
SmallExtremes (Some e) = (nat_abs e.lowest < 10 ^ 11) × (nat_abs e.highest < 10 ^ 11)

pub record Small (stats : ConvertStats) : Type 0 where
  pub clips : (c : ℕ) → c < 6 → (channel_of stats c).clipped ≤ 10 ^ 10
  pub extremes : (c : ℕ) → c < 6 → SmallExtremes (channel_of stats c).extremes

both_fit : (e : Option Extremes) → SmallExtremes e → (length (level_text (lowest e)) ≤ 12) × (length (level_text (highest e)) ≤ 12)
unfolding lowest highest level_text text
both_fit None h = (omega arith, omega arith)
both_fit (Some e) h = (level_fits e.lowest h.0, level_fits e.highest h.1)

module _ {stats : ConvertStats} (small : Small stats) where
  channel_fits : (c : ℕ) → c < 6 → too_wide (channel_line stats c) ≡ false
  channel_fits c l =
      let clips = le-ltb 14 (length (decimal (channel_of stats c).clipped)) (omega (arith, places 10 (channel_of stats c).clipped (omega (arith, small.clips c l)))) in
      let fit = both_fit (channel_of stats c).extremes (small.extremes c l) in
      channel_wide stats c l ∙ rw (figures_wide (channel_of stats c), clips, le-ltb 12 _ fit.0, le-ltb 12 _ fit.1)

  all_fit : (n : ℕ) → n ≤ 6 → some_below (λ c. too_wide (channel_line stats c)) n ≡ false
  unfolding some_below
  all_fit zero l = refl
  all_fit (suc n) l = rw (all_fit n (omega arith), channel_fits n (omega arith))

  sum_small : (n : ℕ) → n ≤ 6 → clip_sum stats n ≤ 10 ^ 10 * n
  unfolding clip_sum total
  sum_small zero l = omega arith
  sum_small (suc n) l = rw (zero-add n) (omega (arith, sum_small n (omega arith), small.clips n (omega arith)))

  pub sheet_fits : (channels : ℕ) → channels ≤ 6 → sheet_too_wide channels stats ≡ false
  unfolding sheet_too_wide
  sheet_fits channels l =
      let sum = le-ltb 14 (length (decimal (clip_sum stats channels))) (omega (arith, places 10 (clip_sum stats channels) (omega (arith, sum_small channels l)))) in
      rw (all_fit channels l, sum_wide (clip_sum stats channels), sum)
