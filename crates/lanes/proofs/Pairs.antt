-- Taps by pairs: their sizes, and one more, every fourth, all.
use Rattle.std.proofs.Common.{◌≡◌, refl, sym, ◌∙◌, ap, ap₂, List, ℕ, zero, suc, ◌+◌, ◌-◌, ◌*◌, ◌^◌, ◌<◌, ◌≤◌, mul-le-mul, arith, ℤ, pos, nat_abs, ◌+ℤ◌, ◌*ℤ◌}
use Rattle.numbers.specs.Sums.{sum_to}
use Rattle.numbers.proofs.Integers.{abs_add, abs_mul, sums}
use Rattle.numbers.proofs.Sums.{sum_same, sum_join}
use Rattle.reference.specs.Stages.{tap}
use Rattle.lanes.specs.inner.Lanes.{Small, copied, arm, arms, fourths, Low}

-- ---- sizes
pub copied_size : {v : List ℕ} → Low v → (k : ℕ) → nat_abs (copied v k) ≤ 2 ^ 30
unfolding copied
copied_size b k = b.size k

sum_each : (n : ℕ) (f : ℕ → ℤ) (m : ℕ) → ((k : ℕ) → nat_abs (f k) ≤ m) → nat_abs (sum_to n f) ≤ n * m
unfolding sum_to
sum_each zero f m h = omega arith
sum_each (suc n) f m h = omega (arith, abs_add (sum_to n f) (f n), sum_each n f m h, h n)

pub product_size : (h a : ℤ) (A : ℕ) → nat_abs h ≤ 2 ^ 25 → nat_abs a ≤ A → nat_abs (h *ℤ a) ≤ 2 ^ 25 * A
product_size h a A p q = omega (arith, abs_mul h a, mul-le-mul p q)

pub centre_size : (h : ℤ) {v : List ℕ} → nat_abs h ≤ 2 ^ 25 → Low v → (k : ℕ) → nat_abs (h *ℤ copied v k) ≤ 2 ^ 55
centre_size h {v} p low k = product_size h (copied v k) (2 ^ 30) p (copied_size low k)

pub pair_size : (h a b : ℤ) → nat_abs h ≤ 2 ^ 25 → nat_abs a ≤ 2 ^ 30 → nat_abs b ≤ 2 ^ 30 → nat_abs (h *ℤ (a +ℤ b)) ≤ 2 ^ 56
pair_size h a b p q r = product_size h (a +ℤ b) (2 ^ 31) p (omega (arith, abs_add a b))

module _ (h : List ℤ) (s : ℕ → ℤ) (from down up n : ℕ) (hs : Small (2 ^ 25) h) (b : (k : ℕ) → nat_abs (s k) ≤ 2 ^ 30) where
  arm_size : (k : ℕ) → nat_abs (arm h s down up k) ≤ 2 ^ 56
  arm_size k = pair_size (tap h k) (s (down - k)) (s (up + k)) (hs.size k) (b (down - k)) (b (up + k))

  pub arms_size : nat_abs (arms h s from down up n) ≤ n * 2 ^ 56
  unfolding arms
  arms_size = sum_each n _ (2 ^ 56) (λ k. arm_size (from + k))

  pub fourths_size : nat_abs (fourths h s from down up n) ≤ 2 * n * 2 ^ 56
  unfolding fourths
  fourths_size = omega (
    arith,
    sum_each n (λ k. arm h s down up (from + 4 * k) +ℤ arm h s down up (from + 4 * k + 2)) (2 ^ 57)
        (λ k. omega (arith, abs_add (arm h s down up (from + 4 * k)) (arm h s down up (from + 4 * k + 2)), arm_size (from + 4 * k), arm_size (from + 4 * k + 2))),
  )

-- ---- no tap, and a tap more
pub arms_none : (h : List ℤ) (s : ℕ → ℤ) (from down up n : ℕ) → n ≡ 0 → arms h s from down up n ≡ pos 0
unfolding arms sum_to
arms_none h s from down up n e = ap (arms h s from down up) e

pub arms_one : (h : List ℤ) (s : ℕ → ℤ) (from end up j : ℕ) → from ≤ j → arms h s from (end - 1) up (j - from) +ℤ tap h j *ℤ (s (end - 1 - j) +ℤ s (up + j)) ≡ arms h s from (end - 1) up (j + 1 - from)
unfolding arms sum_to
arms_one h s from end up j p =
    let e : j + 1 - from ≡ suc (j - from) = omega arith in
    let f : from + (j - from) ≡ j = omega arith in
    rw (e, f)

-- for lane l
pub arms_more : (h : List ℤ) (s : ℕ → ℤ) (from end up j l : ℕ) → from ≤ j → j < end
    → arms h s from (end + l - 1) (up + l) (j - from) +ℤ tap h j *ℤ (s (end - 1 - j + l) +ℤ s (up + j + l)) ≡ arms h s from (end + l - 1) (up + l) (j + 1 - from)
arms_more h s from end up j l p q =
    let u : up + j + l ≡ up + l + j = omega arith in
    let d : end - 1 - j + l ≡ end + l - 1 - j = omega arith in
    rw (u, d) (arms_one h s from (end + l) (up + l) j p)

-- ---- every fourth tap, with the one two places after it
pub fourths_none : (h : List ℤ) (s : ℕ → ℤ) (from down up : ℕ) → fourths h s from down up 0 ≡ pos 0
unfolding fourths sum_to
fourths_none h s from down up = refl

-- for lane l
pub fourths_more : (h : List ℤ) (s : ℕ → ℤ) (from end up k l : ℕ) → from + 4 * k + 2 < end
    → fourths h s from (end + l - 1) (up + l) k +ℤ
    (tap h (from + 4 * k) *ℤ (s (end - 3 - (from + 4 * k) + 2 + l) +ℤ s (up + (from + 4 * k) + l)) +ℤ
    tap h (from + 4 * k + 2) *ℤ (s (end - 3 - (from + 4 * k) + l) +ℤ s (up + (from + 4 * k) + 2 + l)))
    ≡ fourths h s from (end + l - 1) (up + l) (k + 1)
unfolding fourths sum_to
fourths_more h s from end up k l p =
    let e : k + 1 ≡ suc k = omega arith in
    let a : end - 3 - (from + 4 * k) + 2 + l ≡ end + l - 1 - (from + 4 * k) = omega arith in
    let b : end - 3 - (from + 4 * k) + l ≡ end + l - 1 - (from + 4 * k + 2) = omega arith in
    let c : up + (from + 4 * k) + l ≡ up + l + (from + 4 * k) = omega arith in
    let d : up + (from + 4 * k) + 2 + l ≡ up + l + (from + 4 * k + 2) = omega arith in
    rw (e, a, b, c, d)

module _ (h : List ℤ) (s : ℕ → ℤ) (from down up : ℕ) where
  -- those from `from` and those from the place after it are all taps
  fourths_both : (n : ℕ) → fourths h s from down up n +ℤ fourths h s (from + 1) down up n ≡ arms h s from down up (4 * n)
  unfolding fourths arms sum_to
  fourths_both zero = refl
  fourths_both (suc n) =
      let e : 4 * suc n ≡ suc (suc (suc (suc (4 * n)))) = omega arith in
      let g : (k : ℕ) → ℤ = λ k. arm h s down up (from + k) in
      let b : from + 1 + 4 * n ≡ from + suc (4 * n) = omega arith in
      let c : from + 4 * n + 2 ≡ from + suc (suc (4 * n)) = omega arith in
      let d : from + suc (4 * n) + 2 ≡ from + suc (suc (suc (4 * n))) = omega arith in
      rw (e, b, c, d)
      (turn (fourths h s from down up n) (fourths h s (from + 1) down up n) (g (4 * n)) (g (suc (4 * n))) (g (suc (suc (4 * n)))) (g (suc (suc (suc (4 * n)))))
      ∙ ap (λ (z : ℤ). z +ℤ g (4 * n) +ℤ g (suc (4 * n)) +ℤ g (suc (suc (4 * n))) +ℤ g (suc (suc (suc (4 * n))))) (fourths_both n))
    where
      turn : (f g a b c d : ℤ) → f +ℤ (a +ℤ c) +ℤ (g +ℤ (b +ℤ d)) ≡ f +ℤ g +ℤ a +ℤ b +ℤ c +ℤ d
      turn f g a b c d = simp sums

  -- and with the rest, up to place m
  pub by_fourths : (n m : ℕ) → from + 4 * n ≤ m → fourths h s from down up n +ℤ fourths h s (from + 1)
      down up n +ℤ arms h s (from + 4 * n) down up (m - (from + 4 * n)) ≡ arms h s from down up (m - from)
  unfolding arms
  by_fourths n m l =
      let r = m - (from + 4 * n) in
      let e : 4 * n + r ≡ m - from = omega arith in
      ap₂ (λ (y z : ℤ). y +ℤ z) (fourths_both n) (sum_same r _ (λ k. arm h s down up (from + (4 * n + k))) (λ k p. ap (arm h s down up) (omega arith)))
      ∙ sym (sum_join (4 * n) r (λ k. arm h s down up (from + k)))
      ∙ ap (arms h s from down up) e
