-- Which numbers of a sheet fit their columns.
use Rattle.std.proofs.Common.{◌≡◌, refl, sym, ◌∙◌, Bool, true, false, ◌||◌, add-one, ⊎_elim, ℕ, zero, suc, ◌+◌, ◌*◌, ◌^◌, ◌≤◌, ◌<◌, zero-add, arith, ltb-false}
use Rattle.std.proofs.Common.{ltb, length}
use mathlib.Core.Bool.{or-false}
use Rattle.numbers.specs.Lists.{total}
use Rattle.numbers.proofs.Lists.{below_or}
use Rattle.reference.specs.Statistics.{channel_of, clip_sum}
use Rattle.reference.specs.declared.ConvertStats.{ConvertStats}
use Rattle.reference.specs.declared.ChannelStats.{ChannelStats}
use Rattle.text.specs.Text.{decimal}
use Rattle.text.proofs.Numerals.{one_digit, bounded}
use Rattle.columns.specs.Columns.{level_text, too_wide}
use Rattle.columns.proofs.Widths.{or_left, entry_fits}
use Rattle.sheet.specs.Sheet.{lowest, highest, channel_cells, channel_line, sum_line, some_below, sheet_too_wide}

-- a channel's figures
module _ (channel : ChannelStats) where
  pub figures_wide : too_wide (channel_cells channel)
      ≡ (ltb 14 (length (decimal channel.clipped)) || (ltb 12 (length (level_text (lowest channel.extremes))) || ltb 12 (length (level_text (highest channel.extremes)))))
  unfolding too_wide channel_cells
  figures_wide = rw or-false

  module _ (fits : too_wide (channel_cells channel) ≡ false) where
    pub clips_fit : length (decimal channel.clipped) ≤ 14
    unfolding channel_cells
    clips_fit = (entry_fits _ _ fits).0

    pub lowest_fits : length (level_text (lowest channel.extremes)) ≤ 12
    unfolding channel_cells
    lowest_fits = (entry_fits _ _ (entry_fits _ _ fits).1).0

    pub highest_fits : length (level_text (highest channel.extremes)) ≤ 12
    unfolding channel_cells
    highest_fits = (entry_fits _ _ (entry_fits _ _ (entry_fits _ _ fits).1).1).0

-- its number has one digit
pub channel_wide : (stats : ConvertStats) (c : ℕ) → c < 6 → too_wide (channel_line stats c) ≡ too_wide (channel_cells (channel_of stats c))
unfolding too_wide channel_line
channel_wide stats c l = rw (one_digit c (omega arith))

pub sum_wide : (sum : ℕ) → too_wide (sum_line sum) ≡ ltb 14 (length (decimal sum))
unfolding too_wide sum_line
sum_wide sum = rw or-false

-- one channel after another
pub none_of : (p : ℕ → Bool) (n c : ℕ) → some_below p n ≡ false → c < n → p c ≡ false
unfolding some_below
none_of p zero c h l = absurd (omega arith)
none_of p (suc n) c h l =
    let q = or_left (some_below p n) (p n) h in
    ⊎_elim (λ m. none_of p n c q.0 m) (λ m. let e : c ≡ n = omega arith in rw e q.1) (below_or c n)

-- counts that fit their columns, together
module _ (stats : ConvertStats) where
  sum_within : (n : ℕ) → n ≤ 6 → some_below (λ c. too_wide (channel_line stats c)) n ≡ false → clip_sum stats n ≤ 10 ^ 14 * n
  unfolding clip_sum total some_below
  sum_within zero l h = omega arith
  sum_within (suc n) l h =
      let p = or_left (some_below (λ c. too_wide (channel_line stats c)) n) (too_wide (channel_line stats n)) h in
      let few = bounded 14 _ (clips_fit (channel_of stats n) (sym (channel_wide stats n (omega arith)) ∙ p.1)) in
      rw (zero-add n) (omega (arith, sum_within n (omega arith) p.0, few))

  pub sum_small : (n : ℕ) → n ≤ 6 → some_below (λ c. too_wide (channel_line stats c)) n ≡ false → clip_sum stats n < 2 ^ 64
  sum_small n l h = omega (arith, sum_within n l h)

-- all printed numbers
module _ (channels : ℕ) (stats : ConvertStats) (fits : sheet_too_wide channels stats ≡ false) where
  pub channels_fit : some_below (λ c. too_wide (channel_line stats c)) channels ≡ false
  unfolding sheet_too_wide
  channels_fit = (or_left (some_below (λ c. too_wide (channel_line stats c)) channels) (too_wide (sum_line (clip_sum stats channels))) fits).0

  pub sum_fits : length (decimal (clip_sum stats channels)) ≤ 14
  unfolding sheet_too_wide
  sum_fits =
      let h = (or_left (some_below (λ c. too_wide (channel_line stats c)) channels) (too_wide (sum_line (clip_sum stats channels))) fits).1 in
      ltb-false 14 (length (decimal (clip_sum stats channels))) (sym (sum_wide (clip_sum stats channels)) ∙ h)

-- one place more: found before it, or found by what it says
pub found_before : (p : ℕ → Bool) (n : ℕ) → some_below p n ≡ true → true ≡ some_below p (n + 1)
unfolding some_below
found_before p n e = rw (add-one, e) refl

pub found_here : (p : ℕ → Bool) (n : ℕ) {b : Bool} → some_below p n ≡ false → b ≡ p n → b ≡ some_below p (n + 1)
unfolding some_below
found_here p n e h = rw (add-one, e) h
