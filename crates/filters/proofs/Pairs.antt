-- The filters' sums by pairs of neighbours, and what the bias adds to them.
use Rattle.std.proofs.Common.{◌≡◌, refl, sym, ◌∙◌, ap, ap₂, List, ℕ, zero, suc, ◌+◌, ◌-◌, ◌^◌, ◌<◌, ◌≤◌, arith, ℤ, pos, ◌+ℤ◌, ◌*ℤ◌, length}
use lib.IntN.{+ℤ_comm, +ℤ_assoc, zero-*ℤ}
use Rattle.numbers.specs.Sums.{sum_to, apart, at0}
use Rattle.numbers.proofs.Integers.{+ℤ-left-comm, mul_add, add_mul, *ℤ-assoc, sums}
use Rattle.numbers.proofs.Sums.{sum_same, sum_head}
use Rattle.reference.specs.Stages.{tap, M, fir}
use Rattle.lanes.specs.inner.Lanes.{arms}
use Rattle.filters.specs.inner.Filters.{between_by, ones}
use Rattle.filters.specs.inner.Biases.{biased}

-- ---- the filter's sum: the centre, and the pairs
module _ (h : List ℤ) (s : ℕ → ℤ) (c : ℕ) where
  abbrev around : ℕ → ℤ
  around n = sum_to (n + n + 1) (λ k. tap h (apart k n) *ℤ s (c - n + k))

  term : (a b i j : ℕ) → a ≡ i → b ≡ j → tap h a *ℤ s b ≡ tap h i *ℤ s j
  term a b i j p q = ap₂ (λ (m n : ℕ). tap h m *ℤ s n) p q

  regroup : (w a b g : ℤ) → g *ℤ a +ℤ w +ℤ g *ℤ b ≡ w +ℤ g *ℤ (a +ℤ b)
  regroup w a b g = simp sums

  around_suc : (n : ℕ) → suc n ≤ c → around (suc n) ≡ around n +ℤ tap h (suc n) *ℤ (s (c - suc n) +ℤ s (c + suc n))
  unfolding sum_to
  around_suc n l =
      let long : suc n + suc n + 1 ≡ suc (suc (n + n + 1)) = omega arith in
      ap (λ (m : ℕ). sum_to m (λ k. tap h (apart k (suc n)) *ℤ s (c - suc n + k))) long
      ∙ ap₂ (λ (a b : ℤ). a +ℤ b)
      (sum_head (n + n + 1) (λ k. tap h (apart k (suc n)) *ℤ s (c - suc n + k))
      ∙ ap₂ (λ (a b : ℤ). a +ℤ b) (term _ _ (suc n) (c - suc n) (omega arith) (omega arith)) (sum_same (n + n + 1) _ _ (λ k m. term _ _ _ _ (omega arith) (omega arith))))
      (term _ _ (suc n) (c + suc n) (omega arith) (omega arith))
      ∙ regroup (around n) (s (c - suc n)) (s (c + suc n)) (tap h (suc n))

  pub around_is : (n : ℕ) → n ≤ c → around n ≡ tap h 0 *ℤ s c +ℤ arms h s 1 c c n
  unfolding sum_to arms
  around_is zero l = +ℤ_comm (pos 0) (tap h (apart 0 0) *ℤ s (c - 0 + 0)) ∙ ap (λ (z : ℤ). z +ℤ pos 0) (term 0 (c - 0 + 0) 0 c refl (omega arith))
  around_is (suc n) l =
      let e : 1 + n ≡ suc n = omega arith in
      around_suc n l
      ∙ ap₂ (λ (a : ℤ) (m : ℕ). a +ℤ tap h m *ℤ (s (c - m) +ℤ s (c + m))) (around_is n (omega arith)) (sym e)
      ∙ +ℤ_assoc (tap h 0 *ℤ s c) (arms h s 1 c c n) (tap h (1 + n) *ℤ (s (c - (1 + n)) +ℤ s (c + (1 + n))))

  pub fir_is : M h ≤ c → fir h s c ≡ tap h 0 *ℤ s c +ℤ arms h s 1 c c (M h)
  unfolding fir
  fir_is l = around_is (M h) l

-- the sum between two places has pairs only
pub between_is : (h : List ℤ) (s : ℕ → ℤ) (k up : ℕ) → (0 < length h → up ≡ k + 1) → arms h s 0 k up (length h) ≡ between_by h s k
unfolding arms between_by
between_is h s k up e =
    sum_same (length h) _ _
    (λ j l.
    let z : 0 + j ≡ j = omega arith in
    let u : up ≡ k + 1 = e (omega arith) in
    rw (z, u))

-- ---- signals that agree where a filter reads
pub fir_same : (h : List ℤ) (s r : ℕ → ℤ) (c : ℕ) → M h ≤ c → ((k : ℕ) → k ≤ c + M h → s k ≡ r k) → fir h s c ≡ fir h r c
unfolding fir
fir_same h s r c l e = sum_same (M h + M h + 1) _ _ (λ k m. ap (λ (z : ℤ). tap h (apart k (M h)) *ℤ z) (e (c - M h + k) (omega arith)))

pub between_same : (h : List ℤ) (s r : ℕ → ℤ) (c : ℕ) → ((k : ℕ) → 0 < length h → k ≤ c + length h → s k ≡ r k) → between_by h s c ≡ between_by h r c
unfolding between_by
between_same h s r c e =
    sum_same (length h) _ _ (λ j m. ap₂ (λ (y z : ℤ). tap h j *ℤ (y +ℤ z)) (e (c - j) (omega arith) (omega arith)) (e (c + 1 + j) (omega arith) (omega arith)))

-- ---- the bias adds the taps' sum times 2^29
sum_bias : (n : ℕ) (g s u : ℕ → ℤ) (c : ℤ) → sum_to n (λ k. g k *ℤ (s k +ℤ u k *ℤ c)) ≡ sum_to n (λ k. g k *ℤ s k) +ℤ sum_to n (λ k. g k *ℤ u k) *ℤ c
unfolding sum_to
sum_bias zero g s u c = sym (ap (λ (z : ℤ). pos 0 +ℤ z) (zero-*ℤ c))
sum_bias (suc n) g s u c = ap (λ (z : ℤ). z +ℤ g n *ℤ (s n +ℤ u n *ℤ c)) (sum_bias n g s u c) ∙ step (sum_to n (λ k. g k *ℤ s k)) (sum_to n (λ k. g k *ℤ u k)) (g n) (s n) (u n)
  where
    step : (p q a b d : ℤ) → p +ℤ q *ℤ c +ℤ a *ℤ (b +ℤ d *ℤ c) ≡ p +ℤ a *ℤ b +ℤ (q +ℤ a *ℤ d) *ℤ c
    step p q a b d = simp (+ℤ_assoc, +ℤ-left-comm, mul_add, add_mul, *ℤ-assoc)

pub fir_bias : (h x : List ℤ) (c : ℕ) → fir h (biased x) c ≡ fir h (at0 x) c +ℤ fir h ones (M h) *ℤ pos (2 ^ 29)
unfolding fir biased
fir_bias h x c = sum_bias (M h + M h + 1) (λ k. tap h (apart k (M h))) (λ k. at0 x (c - M h + k)) ones (pos (2 ^ 29))

pub between_bias : (h x : List ℤ) (k : ℕ) → between_by h (biased x) k ≡ between_by h (at0 x) k +ℤ between_by h ones (length h) *ℤ pos (2 ^ 29)
unfolding between_by biased
between_bias h x k =
    sum_same (length h) _ (λ j. tap h j *ℤ (at0 x (k - j) +ℤ at0 x (k + 1 + j) +ℤ (pos 1 +ℤ pos 1) *ℤ pos (2 ^ 29)))
    (λ j l. ap (λ (z : ℤ). tap h j *ℤ z) (each (at0 x (k - j)) (at0 x (k + 1 + j)) (pos (2 ^ 29))))
    ∙ sum_bias (length h) (tap h) (λ j. at0 x (k - j) +ℤ at0 x (k + 1 + j)) (λ j. pos 1 +ℤ pos 1) (pos (2 ^ 29))
  where
    each : (a b c : ℤ) → (a +ℤ c) +ℤ (b +ℤ c) ≡ a +ℤ b +ℤ (c +ℤ c)
    each a b c = simp sums
