-- How large the stages' values are, for any bytes: from the absolute sum of each filter's taps.
use Rattle.std.proofs.Common.{◌≡◌, refl, ap, Bool, true, false, cond, List, ℕ, zero, suc, ◌+◌, ◌-◌, ◌*◌, ◌/◌, ◌%◌, ◌^◌, ◌≤◌, ◌<◌, mul-le-mul_right, arith, lit≤}
use Rattle.std.proofs.Common.{lit<, eqb, ℤ, nat_abs, ◌+ℤ◌}
use Rattle.numbers.specs.Sums.{apart}
use Rattle.numbers.specs.Lists.{total}
use Rattle.numbers.proofs.Integers.{abs_add}
use Rattle.numbers.proofs.Sums.{sum_size}
use Rattle.reference.specs.inner.Sizes.{absolute_sum}
use Rattle.reference.specs.Taps.{S1, S1_WIDE, HB, F40, F30, F80}
use Rattle.reference.specs.Stages.{tap, M, fir, bit, sign, x, u, v, w, between, y_narrow, y_wide}
use Rattle.reference.specs.declared.PcmRate.{PcmRate}
use Rattle.reference.specs.declared.PcmRate.TheVariants.{Hz88200, Hz176400, Hz352800}
use Rattle.reference.proofs.Rounding.{R_size}

pub fir_size : (h : List ℤ) (s : ℕ → ℤ) (c B : ℕ) → ((k : ℕ) → nat_abs (s k) ≤ B) → nat_abs (fir h s c) ≤ absolute_sum h * B
unfolding fir absolute_sum
fir_size h s c B b = sum_size (M h + M h + 1) (λ k. tap h (apart k (M h))) (λ k. s (c - M h + k)) B (λ k l. b (c - M h + k))

x_size : (β : ℕ → ℕ) (s : ℕ) → nat_abs (x β s) ≤ 1
unfolding x sign
x_size β s = go (bit (β (s / 8)) (s % 8))
  where
    go : (n : ℕ) → nat_abs (sign n) ≤ 1
    go zero = lit≤ tt
    go (suc n) = lit≤ tt

-- ---- the built-in filters

S1_sum : absolute_sum S1 ≡ 84943204
unfolding absolute_sum total S1
S1_sum = refl

S1_WIDE_sum : absolute_sum S1_WIDE ≡ 96336740
unfolding absolute_sum total S1_WIDE
S1_WIDE_sum = refl

HB_sum : absolute_sum HB ≡ 23973988
unfolding absolute_sum total HB
HB_sum = refl

F80_sum : absolute_sum F80 ≤ 40100000
unfolding absolute_sum total F80
F80_sum = lit≤ tt

pub F40_sum : absolute_sum F40 ≤ 40000000
unfolding absolute_sum total F40
F40_sum = lit≤ tt

pub F30_sum : absolute_sum F30 ≤ 40000000
unfolding absolute_sum total F30
F30_sum = lit≤ tt

-- ---- the stages

pub u_size : (h : List ℤ) (β : ℕ → ℕ) (m : ℕ) → nat_abs (u h β m) ≤ absolute_sum h
unfolding u
u_size h β m = omega (arith, fir_size h (x β) (8 * m) 1 (x_size β))

pub u_S1_size : (β : ℕ → ℕ) (m : ℕ) → nat_abs (u S1 β m) ≤ 84943204
u_S1_size β m = omega (arith, u_size S1 β m, S1_sum)

pub u_WIDE_size : (β : ℕ → ℕ) (m : ℕ) → nat_abs (u S1_WIDE β m) ≤ 96336740
u_WIDE_size β m = omega (arith, u_size S1_WIDE β m, S1_WIDE_sum)

pub v_size : (β : ℕ → ℕ) (i : ℕ) → nat_abs (v β i) < 2 ^ 27
unfolding v
v_size β i =
    let s = fir HB (u S1 β) (2 * i) in
    omega (arith, R_size s 24, fir_size HB (u S1 β) (2 * i) 84943204 (u_S1_size β), ap (λ n. n * 84943204) HB_sum)

-- a low-pass F of absolute sum 40,000,000 at most
module _ (F : List ℤ) (small : absolute_sum F ≤ 40000000) (β : ℕ → ℕ) where
  w_sum_at_most : (i : ℕ) → nat_abs (fir F (v β) i) ≤ 40000000 * 2 ^ 27
  w_sum_at_most i = omega (arith, fir_size F (v β) i (2 ^ 27) (λ k. omega (arith, v_size β k)), mul-le-mul_right (2 ^ 27) small)

  pub w_sum_size : (i : ℕ) → nat_abs (fir F (v β) i) < 2 ^ 53
  w_sum_size i = omega (arith, w_sum_at_most i)

  pub w_size : (i : ℕ) → nat_abs (w F β i) < 2 ^ 29
  unfolding w
  w_size i = omega (arith, R_size (fir F (v β) i) 24, w_sum_at_most i)

odd_taps_sum : total (λ j. nat_abs (tap HB (2 * j + 1))) 0 8 ≡ 7792690
unfolding total HB
odd_taps_sum = refl

-- below 2^53 too
pub between_size : (s : ℕ → ℤ) (k : ℕ) → ((i : ℕ) → nat_abs (s i) < 2 ^ 29) → nat_abs (between s k) ≤ 7792690 * 2 ^ 30
unfolding between
between_size s k b =
    omega (
      arith,
      odd_taps_sum,
      sum_size 8 (λ j. tap HB (2 * j + 1)) (λ j. s (k - j) +ℤ s (k + 1 + j)) (2 ^ 30)
          (λ j l. omega (arith, abs_add (s (k - j)) (s (k + 1 + j)), b (k - j), b (k + 1 + j))),
    )

pub y_narrow_size : (rate : PcmRate) (F : List ℤ) → absolute_sum F ≤ 40000000 → (β : ℕ → ℕ) (n : ℕ) → nat_abs (y_narrow rate F β n) < 2 ^ 30
unfolding y_narrow
y_narrow_size Hz88200 F small β n = omega (arith, w_size F small β (2 * n))
y_narrow_size Hz176400 F small β n = omega (arith, w_size F small β n)
y_narrow_size Hz352800 F small β n =
    either (eqb (n % 2) 0) _ _ (omega (arith, w_size F small β (n / 2)))
    (omega (arith, R_size (between (w F β) (n / 2)) 23, between_size (w F β) (n / 2) (w_size F small β)))
  where
    either : (b : Bool) (p q : ℤ) → nat_abs p < 2 ^ 30 → nat_abs q < 2 ^ 30 → nat_abs (cond b p q) < 2 ^ 30
    either true p q l m = l
    either false p q l m = m

pub wide_sum_size : (h : List ℤ) → absolute_sum h ≤ 40100000 → (β : ℕ → ℕ) (c : ℕ) → nat_abs (fir h (u S1_WIDE β) c) < 2 ^ 52
wide_sum_size h small β c = omega (arith, fir_size h (u S1_WIDE β) c 96336740 (u_WIDE_size β), mul-le-mul_right 96336740 small)

pub y_wide_size : (rate : PcmRate) (β : ℕ → ℕ) (n : ℕ) → nat_abs (y_wide rate β n) < 2 ^ 30
unfolding y_wide
y_wide_size Hz88200 β n = lit< tt
y_wide_size Hz176400 β n = omega (arith, R_size (fir F80 (u S1_WIDE β) (2 * n)) 24, wide_sum_size F80 F80_sum β (2 * n))
y_wide_size Hz352800 β n = omega (arith, R_size (fir F40 (u S1_WIDE β) n) 24, wide_sum_size F40 (omega (arith, F40_sum)) β n)
