-- The tables of the reference: antt adds their taps up.
use Rattle.std.proofs.Common.{◌≡◌, refl, sym, ◌∙◌, ap, ℕ, zero, suc, ◌+◌, ◌-◌, arith, lit≤, ℤ, pos, ◌+ℤ◌, ◌*ℤ◌, replicate}
use Rattle.numbers.specs.Sums.{sum_to}
use Rattle.numbers.specs.Lists.{total, tabulate}
use Rattle.numbers.proofs.Sums.{sum_same}
use Rattle.reference.specs.Taps.{HB, F40, F30, F80}
use Rattle.reference.specs.Stages.{tap, fir, between}
use Rattle.reference.specs.inner.Sizes.{absolute_sum}
use Rattle.reference.proofs.Sizes.{F40_sum, F30_sum}
use Rattle.filters.specs.inner.Filters.{even_taps, odd_taps, alone, between_by, UnityGain, Between}
use Rattle.filters.proofs.Signals.{Halves, split_halves, halves_phases}
use Rattle.filters.proofs.Totals.{filter_by_sums}

pub absolute_HB : absolute_sum HB ≡ 23973988
unfolding HB absolute_sum total
absolute_HB = refl

pub absolute_F80 : absolute_sum F80 ≡ 40030264
unfolding F80 absolute_sum total
absolute_F80 = refl

pub filter_HB : UnityGain HB
unfolding HB fir sum_to
filter_HB = filter_by_sums HB refl (omega (arith, absolute_HB))

pub filter_F40 : UnityGain F40
unfolding F40 fir sum_to
filter_F40 = filter_by_sums F40 refl (omega (arith, F40_sum))

pub filter_F30 : UnityGain F30
unfolding F30 fir sum_to
filter_F30 = filter_by_sums F30 refl (omega (arith, F30_sum))

pub filter_F80 : UnityGain F80
unfolding F80 fir sum_to
filter_F80 = filter_by_sums F80 refl (omega (arith, absolute_F80))

-- ---- the half band: of its even taps only the centre is not 0
nothing : (n k : ℕ) → tap (replicate n (pos 0)) k ≡ pos 0
nothing zero k = refl
nothing (suc n) zero = refl
nothing (suc n) (suc k) = nothing n k

even_HB : (k : ℕ) → tap alone k ≡ tap (even_taps HB) k
unfolding HB even_taps tabulate
even_HB zero = refl
even_HB (suc k) = sym (nothing 7 k)

pub halves_HB : Halves HB alone (odd_taps HB)
unfolding HB odd_taps tabulate
halves_HB = record { even = λ k. even_HB k ∙ (split_halves HB).even k; odd = (split_halves HB).odd; evens = lit≤ tt; all = lit≤ tt }

pub between_HB : Between (odd_taps HB)
unfolding HB odd_taps tabulate between_by sum_to
between_HB = record { small = (halves_phases halves_HB filter_HB).small_odd; whole = refl }

pub between_is_HB : (S : ℕ → ℤ) (k : ℕ) → between_by (odd_taps HB) S k ≡ between S k
unfolding HB odd_taps tabulate between_by between
between_is_HB S k = sum_same 8 _ _ (λ j l. ap (λ (z : ℤ). z *ℤ (S (k - j) +ℤ S (k + 1 + j))) ((split_halves HB).odd j))
