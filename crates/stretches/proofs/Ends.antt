-- Joining is associative, and no samples may stand on either side: so a list is joined from either end.
use Rattle.std.proofs.Common.{◌≡◌, refl, sym, ap, ◌∙◌, List, [], ◌∷◌, ℕ, ◌+◌, ◌<◌, arith, Option, Some, None}
use lib.ListN.{get_or-replicate}
use Rattle.numbers.specs.Lists.{tabulate}
use Rattle.numbers.proofs.Extremes.{least_best, greatest_best, assoc}
use Rattle.numbers.proofs.Lists.{tabulate_same}
use Rattle.reference.specs.Statistics.{no_samples, no_stats, add_clips, joined_extremes, joined_channel, channel_of, joined_stats, all_joined}
use Rattle.reference.specs.declared.ChannelStats.{ChannelStats}
use Rattle.reference.specs.declared.ConvertStats.{ConvertStats}
use Rattle.reference.specs.declared.Extremes.{Extremes}
use Rattle.reference.proofs.Statistics.{at_channel}
use Rattle.stretches.specs.Joining.{joined_on, EitherEnd}

-- ---- one channel

clips_assoc : (a b c : ℕ) → add_clips (add_clips a b) c ≡ add_clips a (add_clips b c)
unfolding add_clips
clips_assoc a b c = omega arith

clips_none : (a : ℕ) → add_clips 0 a ≡ add_clips a 0
unfolding add_clips
clips_none a = omega arith

extremes_assoc : (a b c : Option Extremes) → joined_extremes (joined_extremes a b) c ≡ joined_extremes a (joined_extremes b c)
unfolding joined_extremes
extremes_assoc None b c = refl
extremes_assoc (Some x) None c = refl
extremes_assoc (Some x) (Some y) None = refl
extremes_assoc (Some x) (Some y) (Some z) =
    rw (assoc least_best x.lowest y.lowest z.lowest, assoc greatest_best x.highest y.highest z.highest) refl

extremes_none : (a : Option Extremes) → joined_extremes None a ≡ joined_extremes a None
unfolding joined_extremes
extremes_none None = refl
extremes_none (Some x) = refl

channel_assoc : (a b c : ChannelStats) → joined_channel (joined_channel a b) c ≡ joined_channel a (joined_channel b c)
unfolding joined_channel
channel_assoc a b c = rw (clips_assoc a.clipped b.clipped c.clipped, extremes_assoc a.extremes b.extremes c.extremes) refl

channel_none : (a : ChannelStats) → joined_channel no_samples a ≡ joined_channel a no_samples
unfolding joined_channel no_samples
channel_none a = rw (clips_none a.clipped, extremes_none a.extremes) refl

-- ---- all six

joined_at : (a b : ConvertStats) (c : ℕ) → c < 6 → channel_of (joined_stats a b) c ≡ joined_channel (channel_of a c) (channel_of b c)
unfolding joined_stats channel_of
joined_at a b c l = at_channel _ c l

no_stats_at : (c : ℕ) → c < 6 → channel_of no_stats c ≡ no_samples
unfolding no_stats channel_of
no_stats_at c l = get_or-replicate 6 c no_samples no_samples l

each_channel : (f g : ℕ → ChannelStats) → ((c : ℕ) → c < 6 → f c ≡ g c) → ◌≡◌ {A = ConvertStats} (record { channels = tabulate f 0 6 }) (record { channels = tabulate g 0 6 })
each_channel f g h = rw (tabulate_same f g 0 0 6 (λ k l. h (0 + k) (omega arith))) refl

joined_assoc : (a b c : ConvertStats) → joined_stats (joined_stats a b) c ≡ joined_stats a (joined_stats b c)
unfolding joined_stats
joined_assoc a b c =
    each_channel _ _ (λ k l. rw (joined_at a b k l, joined_at b c k l) (channel_assoc (channel_of a k) (channel_of b k) (channel_of c k)))

-- no samples on either side
either_side : (s : ConvertStats) → joined_stats no_stats s ≡ joined_stats s no_stats
unfolding joined_stats
either_side s = each_channel _ _ (λ k l. rw (no_stats_at k l) (channel_none (channel_of s k)))

-- ---- a list

on_from : (a : ConvertStats) (l : List ConvertStats) → joined_on (joined_stats a no_stats) l ≡ joined_stats a (all_joined l)
unfolding joined_on all_joined
on_from a [] = refl
on_from a (s ∷ rest) =
    ap (λ t. joined_on t rest) (joined_assoc a no_stats s ∙ ap (joined_stats a) (either_side s) ∙ sym (joined_assoc a s no_stats))
    ∙ on_from (joined_stats a s) rest
    ∙ joined_assoc a s (all_joined rest)

pub either_end : EitherEnd
unfolding joined_on all_joined
either_end [] = refl
either_end (s ∷ rest) = ap (λ t. joined_on t rest) (either_side s) ∙ on_from s rest
