-- Laws of tallies: of nothing, of two stretches that meet, of stretches that agree; what is counted, and that it fits.
use Rattle.std.proofs.Common.{◌≡◌, refl, sym, ap, cond, ℕ, ◌+◌, ◌^◌, ◌≤◌, ◌<◌, arith, ℤ}
use Rattle.numbers.specs.Lists.{total, count}
use Rattle.numbers.proofs.Lists.{total_join, total_same, count_few}
use Rattle.reference.specs.Scaling.{clips}
use Rattle.reference.specs.Statistics.{extremes_of, no_samples, joined_extremes, joined_channel}
use Rattle.reference.proofs.Statistics.{extremes_same, extremes_join, clips_fit}
use Rattle.gain.specs.Tallies.{tally}

pub tally_none : (f : ℕ → ℤ) (a : ℕ) → tally f a 0 ≡ no_samples
unfolding tally no_samples total extremes_of
tally_none f a = refl

pub tally_clipped : (f : ℕ → ℤ) (a n : ℕ) → (tally f a n).clipped ≡ count (λ k. clips (f k)) a n
unfolding tally
tally_clipped f a n = refl

pub tally_few : (f : ℕ → ℤ) (a n : ℕ) → (tally f a n).clipped ≤ n
unfolding tally
tally_few f a n = count_few (λ k. clips (f k)) a n

-- the counts of two stretches fit a u64 together
pub tally_fits : (f g : ℕ → ℤ) (a b m n : ℕ) → m + n < 2 ^ 64 → (tally f a m).clipped + (tally g b n).clipped < 2 ^ 64
tally_fits f g a b m n h = omega (arith, tally_few f a m, tally_few g b n)

-- of two stretches that meet, of any length: the clips add up, and the extremes join
pub tally_parts : (f : ℕ → ℤ) (a m n : ℕ) → ((tally f a m).clipped + (tally f (a + m) n).clipped ≡ (tally f a (m + n)).clipped)
    × (joined_extremes (tally f a m).extremes (tally f (a + m) n).extremes ≡ (tally f a (m + n)).extremes)
unfolding tally
tally_parts f a m n = (sym (total_join (λ k. cond (clips (f k)) 1 0) a m n), extremes_join f a m n)

pub tally_join : (f : ℕ → ℤ) (a m n : ℕ) → m + n < 2 ^ 64 → joined_channel (tally f a m) (tally f (a + m) n) ≡ tally f a (m + n)
unfolding joined_channel
tally_join f a m n l =
    let p = tally_parts f a m n in
    rw (clips_fit (tally f a m).clipped (tally f (a + m) n).clipped (tally_fits f f a (a + m) m n l), p.0, p.1) refl

-- f from a on and g from b on agree at n places
pub tally_same : (f g : ℕ → ℤ) (a b n : ℕ) → ((k : ℕ) → k < n → f (a + k) ≡ g (b + k)) → tally f a n ≡ tally g b n
unfolding tally
tally_same f g a b n h =
    rw (total_same (λ k. cond (clips (f k)) 1 0) (λ k. cond (clips (g k)) 1 0) a b n (λ k l. ap (λ (z : ℤ). cond (clips z) 1 0) (h k l)), extremes_same f g a b n h) refl
