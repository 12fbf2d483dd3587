-- What is told of equal stretches, and of stretches joined.
use Rattle.std.proofs.Common.{◌≡◌, refl, ap, ◌∙◌, ℕ, zero, suc, ◌+◌, ◌^◌, ◌<◌, ◌≤◌, add-zero, zero-add, arith, ℤ, get_or, length, take, take-suc, List, [], ◌∷◌}
use native.Mathlib.Nat.{min-eq_left}
use lib.Dec.{eqb-suc-zero}
use Rattle.std.specs.List.{sum_by}
use Rattle.std.proofs.lemmas.List.Sums.{sum_by-append}
use Rattle.numbers.specs.Extremes.{lesser, greater, extreme}
use Rattle.numbers.specs.inner.Extremes.{extreme0, pick_unmarked}
use Rattle.numbers.specs.Lists.{tabulate, total}
use Rattle.numbers.proofs.Extremes.{Best, least_best, greatest_best, extreme_same, extreme0_join}
use Rattle.numbers.proofs.Lists.{get_d_tabulate}
use Rattle.reference.specs.Statistics.{extremes_of, no_samples, add_clips, joined_extremes, channel_of, clip_sum}
use Rattle.reference.specs.declared.ConvertStats.{ConvertStats}
use Rattle.reference.specs.declared.ChannelStats.{ChannelStats}

-- f from a on and g from b on agree at n places
pub extremes_same : (f g : ℕ → ℤ) (a b n : ℕ) → ((k : ℕ) → k < n → f (a + k) ≡ g (b + k)) → extremes_of f a n ≡ extremes_of g b n
unfolding extremes_of
extremes_same f g a b zero h = refl
extremes_same f g a b (suc n) h = rw (extreme_same lesser f g a b (suc n) (omega arith) h, extreme_same greater f g a b (suc n) (omega arith) h) refl

-- two stretches that have numbers
both : {R : ℤ → ℤ → Type 0} {pick : ℤ → ℤ → ℤ} → Best R pick → (f : ℕ → ℤ) (a m n : ℕ)
    → pick (extreme pick f a (suc m)) (extreme pick f (a + suc m) (suc n)) ≡ extreme pick f a (suc m + suc n)
unfolding extreme0 pick_unmarked
both best f a m n =
    let e : suc m + suc n ≡ suc (m + suc n) = omega arith in
    rw e (rw (eqb-suc-zero m, eqb-suc-zero n, e) at (extreme0_join best f a (suc m) (suc n)))

-- two stretches, either of which may have none
pub extremes_join : (f : ℕ → ℤ) (a m n : ℕ) → joined_extremes (extremes_of f a m) (extremes_of f (a + m) n) ≡ extremes_of f a (m + n)
unfolding extremes_of joined_extremes
extremes_join f a zero n = rw (add-zero a, zero-add n) refl
extremes_join f a (suc m) zero = rw (add-zero (suc m)) refl
extremes_join f a (suc m) (suc n) =
    let e : suc m + suc n ≡ suc (m + suc n) = omega arith in
    rw (both least_best f a m n, both greatest_best f a m n, e) refl

pub clips_fit : (a b : ℕ) → a + b < 2 ^ 64 → add_clips a b ≡ a + b
unfolding add_clips
clips_fit a b h = min-eq_left (omega arith)

-- what stands in channel c of six
pub at_channel : (f : ℕ → ChannelStats) (c : ℕ) → c < 6 → get_or (tabulate f 0 6) c no_samples ≡ f c
at_channel f c h = get_d_tabulate f 0 6 c no_samples h ∙ ap f (zero-add c)

-- the first n of a list, added up
added : (l : List ChannelStats) (n : ℕ) → n ≤ length l → sum_by (λ c. c.clipped) (take n l) ≡ total (λ c. (get_or l c no_samples).clipped) 0 n
unfolding total
added l zero h = refl
added l (suc n) h =
    rw (take-suc l n no_samples (omega arith), sum_by-append (λ (c : ChannelStats). c.clipped) (take n l) (get_or l n no_samples ∷ []), added l n (omega arith), zero-add n)
    (omega arith)

pub first_clips : (s : ConvertStats) (n : ℕ) → n ≤ length s.channels → sum_by (λ c. c.clipped) (take n s.channels) ≡ clip_sum s n
unfolding clip_sum channel_of
first_clips s n h = added s.channels n h
