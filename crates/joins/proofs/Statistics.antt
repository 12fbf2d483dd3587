-- Statistics of a stretch of a run's samples: of none, of two stretches joined, of a piece.
use Rattle.std.proofs.Common.{◌≡◌, refl, ap, sym, ◌∙◌, Bool, true, false, cond, ℕ, ◌+◌, ◌*◌, ◌^◌, ◌<◌, arith, ltb-true, ltb, Option, None}
use Rattle.numbers.specs.Lists.{tabulate, total, count}
use Rattle.numbers.proofs.Lists.{tabulate_same, tabulate_constant, total_join, count_few}
use Rattle.reference.specs.Frames.{Run}
use Rattle.reference.specs.Output.{samples_per_frame, unclamped, clipped, channel_samples, channel_clips, channel_extremes, channel_stats, stats}
use Rattle.reference.specs.Statistics.{extremes_of, no_samples, no_stats, add_clips, joined_extremes, joined_channel, channel_of, joined_stats}
use Rattle.reference.specs.declared.Converter.{Converter}
use Rattle.reference.specs.declared.ConvertStats.{ConvertStats}
use Rattle.reference.specs.declared.ChannelStats.{ChannelStats}
use Rattle.reference.specs.declared.Extremes.{Extremes}
use Rattle.reference.proofs.Statistics.{extremes_same, extremes_join, clips_fit, at_channel}
use Rattle.joins.proofs.Pieces.{PieceOf, unclamped_same, piece_clips}

-- samples a, …, a + n - 1 of each channel
module _ (conv : Converter) (r : Run) (a n : ℕ) where
  abbrev stretch_clips : ℕ → ℕ
  stretch_clips c = cond (ltb c conv.channels) (count (clipped conv r c) a n) 0

  abbrev stretch_extremes : ℕ → Option Extremes
  stretch_extremes c = cond (ltb c conv.channels) (extremes_of (unclamped conv r c) a n) None

  abbrev stretch_channel : ℕ → ChannelStats
  stretch_channel c = record { clipped = stretch_clips c; extremes = stretch_extremes c }

  unfoldable pub stretch : ConvertStats
  stretch = record { channels = tabulate stretch_channel 0 6 }

-- six channels alike
alike : (f g : ℕ → ChannelStats) → ((c : ℕ) → c < 6 → f c ≡ g c) → ◌≡◌ {A = ConvertStats} (record { channels = tabulate f 0 6 }) (record { channels = tabulate g 0 6 })
alike f g h = rw (tabulate_same f g 0 0 6 (λ k l. h (0 + k) (omega arith))) refl

pub stats_stretch : (conv : Converter) (r : Run) → stats conv r ≡ stretch conv r 0 (channel_samples conv r)
unfolding stats channel_stats channel_clips channel_extremes stretch
stats_stretch conv r = refl

cond_same : {A : Type 0} (b : Bool) (x : A) → cond b x x ≡ x
cond_same true x = refl
cond_same false x = refl

module _ (conv : Converter) (r : Run) where
  pub stretch_none : (a : ℕ) → stretch conv r a 0 ≡ no_stats
  unfolding stretch no_stats no_samples total extremes_of
  stretch_none a =
      ap (λ l. record { channels = l })
      (tabulate_constant (stretch_channel conv r a 0) 0 6 no_samples
      (λ k l. rw (cond_same {A = ℕ} (ltb (0 + k) conv.channels) 0, cond_same {A = Option Extremes} (ltb (0 + k) conv.channels) None) refl))

  -- ---- two stretches, channel by channel

  module _ (a m n : ℕ) (few : m + n < 2 ^ 64) where
    clips_join : (c : ℕ) → add_clips (stretch_clips conv r a m c) (stretch_clips conv r (a + m) n c) ≡ stretch_clips conv r a (m + n) c
    clips_join c = go (ltb c conv.channels)
      where
        go : (b : Bool) → add_clips (cond b (count (clipped conv r c) a m) 0) (cond b (count (clipped conv r c) (a + m) n) 0) ≡ cond b (count (clipped conv r c) a (m + n)) 0
        go true =
            clips_fit _ _ (omega (arith, count_few (clipped conv r c) a m, count_few (clipped conv r c) (a + m) n))
            ∙ sym (total_join (λ k. cond (clipped conv r c k) 1 0) a m n)
        go false = clips_fit 0 0 (omega arith)

    extremes_both : (c : ℕ) → joined_extremes (stretch_extremes conv r a m c) (stretch_extremes conv r (a + m) n c) ≡ stretch_extremes conv r a (m + n) c
    unfolding joined_extremes
    extremes_both c = go (ltb c conv.channels)
      where
        go : (b : Bool) → joined_extremes (cond b (extremes_of (unclamped conv r c) a m) None) (cond b (extremes_of (unclamped conv r c) (a + m) n) None)
            ≡ cond b (extremes_of (unclamped conv r c) a (m + n)) None
        go true = extremes_join (unclamped conv r c) a m n
        go false = refl

    channel_join : (c : ℕ) → joined_channel (stretch_channel conv r a m c) (stretch_channel conv r (a + m) n c) ≡ stretch_channel conv r a (m + n) c
    unfolding joined_channel
    channel_join c = rw (clips_join c, extremes_both c) refl

    pub stretch_join : joined_stats (stretch conv r a m) (stretch conv r (a + m) n) ≡ stretch conv r a (m + n)
    unfolding joined_stats channel_of stretch
    stretch_join =
        alike _ (stretch_channel conv r a (m + n))
        (λ c h. rw (at_channel (stretch_channel conv r a m) c h, at_channel (stretch_channel conv r (a + m) n) c h) (channel_join c))

-- ---- a piece of a run

module _ (conv : Converter) (r : Run) (a n : ℕ) (piece : Run) (cut : PieceOf conv r a n piece) where
  abbrev per : ℕ
  per = samples_per_frame conv.rate

  used : {A : Type 0} (c : ℕ) (x y d : A) → (c < conv.channels → x ≡ y) → cond (ltb c conv.channels) x d ≡ cond (ltb c conv.channels) y d
  used c x y d h = go (ltb c conv.channels) (ltb-true c conv.channels)
    where
      go : (b : Bool) → (b ≡ true → c < conv.channels) → cond b x d ≡ cond b y d
      go true l = h (l refl)
      go false l = refl

  same_extremes : (c : ℕ) → stretch_extremes conv piece 0 (n * per) c ≡ stretch_extremes conv r (a * per) (n * per) c
  same_extremes c =
      used c _ _ None (λ l. extremes_same (unclamped conv piece c) (unclamped conv r c) 0 (a * per)
      (n * per) (λ k h. let z : 0 + k ≡ k = omega arith in rw z (unclamped_same conv r a n piece cut c k l h)))

  pub piece_stretch : stretch conv piece 0 (n * per) ≡ stretch conv r (a * per) (n * per)
  unfolding stretch
  piece_stretch =
      alike (stretch_channel conv piece 0 (n * per)) (stretch_channel conv r (a * per) (n * per))
      (λ c h. rw (used c _ _ 0 (piece_clips conv r a n piece cut c), same_extremes c) refl)
