-- A filter by two sums that a program can compute: its taps, and their sizes, the centre once and the rest twice.
use Rattle.std.proofs.Common.{◌≡◌, sym, ◌∙◌, ap, ap₂, List, ⊎_elim, ℕ, zero, suc, ◌+◌, ◌*◌, ◌^◌, ◌<◌, ◌≤◌, eq-or-lt_of_le, arith, ℤ, pos, nat_abs, neg_ℤ, ◌+ℤ◌}
use Rattle.std.proofs.Common.{◌*ℤ◌, length}
use lib.IntN.{one, +ℤ_comm, *ℤ-one, zero-*ℤ}
use Rattle.numbers.specs.Sums.{sum_to, apart}
use Rattle.numbers.specs.Lists.{total}
use Rattle.numbers.proofs.Integers.{abs_add, abs_neg, add_mul}
use Rattle.numbers.proofs.Lists.{below_or, total_same, total_join}
use Rattle.reference.specs.Stages.{tap, M, fir}
use Rattle.reference.specs.inner.Sizes.{absolute_sum}
use Rattle.filters.specs.inner.Filters.{ones, UnityGain}
use Rattle.lanes.specs.inner.Lanes.{arms}
use Rattle.filters.proofs.Pairs.{fir_is}
use Rattle.filters.proofs.Bias.{back}
use Rattle.filters.proofs.Signals.{past}

-- over |t| ≤ n: the centre once and the rest twice
total_around : (f : ℕ → ℕ) (n : ℕ) → total (λ k. f (apart k n)) 0 (n + n + 1) ≡ f 0 + 2 * total f 1 n
unfolding total
total_around f zero = omega arith
total_around f (suc n) =
    let F : ℕ → ℕ = λ k. f (apart k (suc n)) in
    let first : F 0 ≡ f (1 + n) = ap f (omega arith) in
    let last : F (1 + (n + n + 1) + 0) ≡ f (1 + n) = ap f (omega arith) in
    let long : suc n + suc n + 1 ≡ 1 + (n + n + 1 + 1) = omega arith in
    ap (total F 0) long
    ∙ omega (
      arith,
      total_join F 0 1 (n + n + 1 + 1),
      total_join F 1 (n + n + 1) 1,
      total_same F (λ k. f (apart k n)) 1 0 (n + n + 1) (λ k l. ap f (omega arith)),
      total_around f n,
    )

pub absolute_sum_is : (h : List ℤ) → absolute_sum h ≡ nat_abs (tap h 0) + 2 * total (λ k. nat_abs (tap h k)) 1 (M h)
unfolding absolute_sum
absolute_sum_is h = total_around (λ k. nat_abs (tap h k)) (M h)

sum_times : (n : ℕ) (f : ℕ → ℤ) (c : ℤ) → sum_to n (λ k. f k *ℤ c) ≡ sum_to n f *ℤ c
unfolding sum_to
sum_times zero f c = sym (zero-*ℤ c)
sum_times (suc n) f c = ap (λ (z : ℤ). z +ℤ f n *ℤ c) (sum_times n f c) ∙ sym (add_mul (sum_to n f) (f n) c)

-- the taps, the centre once and the rest twice
pub taps_sum : (h : List ℤ) → fir h ones (M h) ≡ tap h 0 +ℤ sum_to (M h) (λ k. tap h (1 + k)) *ℤ pos 2
unfolding arms sum_to one
taps_sum h = fir_is h ones (M h) (omega arith) ∙ ap₂ (λ (y z : ℤ). y +ℤ z) (*ℤ-one (tap h 0)) (sum_times (M h) (λ k. tap h (1 + k)) (pos 2))

rest_of : (a b : ℤ) → nat_abs a ≤ nat_abs (a +ℤ b) + nat_abs b
rest_of a b = omega (arith, ap nat_abs (back a b), abs_add (a +ℤ b) (neg_ℤ b), abs_neg b)

all_of : (n : ℕ) (f : ℕ → ℤ) → nat_abs (sum_to n f) ≤ total (λ k. nat_abs (f k)) 0 n
unfolding sum_to total
all_of zero f = omega arith
all_of (suc n) f =
    let z : 0 + n ≡ n = omega arith in
    rw z (omega (arith, all_of n f, abs_add (sum_to n f) (f n)))

-- one term of a sum, by the sum and the terms' sizes added up
one_of : (n : ℕ) (f : ℕ → ℤ) (j : ℕ) → j < n → 2 * nat_abs (f j) ≤ nat_abs (sum_to n f) + total (λ k. nat_abs (f k)) 0 n
unfolding sum_to total
one_of zero f j l = absurd (omega arith)
one_of (suc n) f j l =
    let z : 0 + n ≡ n = omega arith in
    let p = rest_of (sum_to n f) (f n) in
    let q : nat_abs (f n) ≤ nat_abs (sum_to n f +ℤ f n) + nat_abs (sum_to n f) = rw (+ℤ_comm (sum_to n f) (f n)) (rest_of (f n) (sum_to n f)) in
    let u : j ≤ n = omega arith in
    rw z (⊎_elim (λ (e : j ≡ n). rw e (omega (arith, all_of n f))) (λ (m : j < n). omega (arith, one_of n f j m)) (eq-or-lt_of_le u))

-- so no tap is over 2^25
pub filter_by_sums : (h : List ℤ) → fir h ones (M h) ≡ pos (2 ^ 24) → absolute_sum h ≤ 3 * 2 ^ 24 → UnityGain h
unfolding fir one absolute_sum
filter_by_sums h e l = record { small = record { size = λ i. ⊎_elim (inside i) (outside i) (below_or i (length h)) }; whole = e }
  where
    inside : (i : ℕ) → i < length h → nat_abs (tap h i) ≤ 2 ^ 25
    inside i m =
        let f : ℕ → ℤ = λ k. tap h (apart k (M h)) *ℤ pos 1 in
        let here : apart (M h + i) (M h) ≡ i = omega arith in
        omega (
          arith,
          one_of (M h + M h + 1) f (M h + i) (omega arith),
          ap (λ (j : ℕ). nat_abs (tap h j *ℤ pos 1)) here,
          ap nat_abs (*ℤ-one (tap h i)),
          ap nat_abs e,
          total_same (λ k. nat_abs (f k)) (λ k. nat_abs (tap h (apart k (M h)))) 0 0 (M h + M h + 1) (λ k q. ap nat_abs (*ℤ-one (tap h (apart (0 + k) (M h))))),
        )

    outside : (i : ℕ) → length h ≤ i → nat_abs (tap h i) ≤ 2 ^ 25
    outside i m = omega (arith, ap nat_abs (past h i m))
