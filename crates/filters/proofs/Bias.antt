-- A block's sums, each biased by 2^53: for each kind of filter, from what its steps have put there.
use Rattle.std.proofs.Common.{◌≡◌, sym, ◌∙◌, ap, ap₂, List, ℕ, ◌+◌, ◌-◌, ◌*◌, ◌^◌, ◌<◌, ◌≤◌, arith, ℤ, pos, neg_ℤ, nat_abs, ◌+ℤ◌, ◌-ℤ◌, ◌*ℤ◌, length}
use lib.IntN.{+ℤ_assoc, +ℤ_idr, +ℤ_invr}
use Rattle.numbers.specs.Sums.{sum_to, at0}
use Rattle.numbers.proofs.Lists.{written_as}
use Rattle.numbers.proofs.Integers.{pp, nn, zext, add_parts, abs_parts, +ℤ-left-comm, add_mul}
use Rattle.reference.specs.Rounding.{R}
use Rattle.reference.specs.Stages.{tap, M, fir}
use Rattle.lanes.specs.inner.Lanes.{Filled, copied, arms}
use Rattle.filters.specs.inner.Filters.{alone, between_by, same_rate, middle, half_rate, Fit, ones, UnityGain, Phases, Between}
use Rattle.filters.specs.inner.Biases.{biased, Copied, Sums, rounded}
use Rattle.filters.proofs.Pairs.{fir_is, between_is, fir_same, between_same, fir_bias, between_bias}
use Rattle.filters.proofs.Places.{filled_then, filled_again}

pub back : (z c : ℤ) → z +ℤ c -ℤ c ≡ z
back z c = +ℤ_assoc z c (neg_ℤ c) ∙ ap (λ (k : ℤ). z +ℤ k) (+ℤ_invr c) ∙ +ℤ_idr z

-- a number, biased by as much as its size or more
up_is : (z : ℤ) (B : ℕ) → nat_abs z ≤ B → z +ℤ pos B ≡ pos (B + pp z - nn z)
up_is z B h = zext _ _ (omega (arith, add_parts z (pos B), abs_parts z))

-- ---- sums biased by 2^53: what the rounding asks of them, and what it gives
module _ (F : ℕ → ℤ) {old new : List ℤ} (u : Filled (λ k. F k +ℤ pos (2 ^ 53)) old new) where
  pub filled_sums : (n : ℕ) → n ≤ length old → Fit F (length old) → Sums n new
  filled_sums n l b =
      record {
        is = λ k m. value k (omega arith) ∙ ap pos (sym (ap nat_abs (value k (omega arith))));
        size = λ k m. omega (arith, ap nat_abs (value k (omega arith)), abs_parts (F k), b.fits k (omega arith));
      }
    where
      value : (k : ℕ) → k < length old → at0 new k ≡ pos (2 ^ 53 + pp (F k) - nn (F k))
      value k m = u.done k m ∙ up_is (F k) (2 ^ 53) (b.fits k m)

  pub filled_round : (q : ℕ) {rounds : List ℤ} → Filled (rounded q new) new rounds → Filled (λ k. R (F k) q) old rounds
  unfolding rounded
  filled_round q w =
      filled_again u
      (written_as w
      (λ k m. ap (λ (v : ℤ). R (v -ℤ pos (2 ^ 53)) q) (u.done k (omega (arith, u.same))) ∙ ap (λ (v : ℤ). R v q) (back (F k) (pos (2 ^ 53)))))

-- ---- the steps

-- the centre, then the pairs
pub fir_filled : (h x : List ℤ) (v : List ℕ) {y₀ y₁ y₂ : List ℤ} → length y₀ + 2 * M h ≤ length x → Copied (length x) x v
    → Filled (λ k. tap h 0 *ℤ copied v (M h + k)) y₀ y₁ → Filled (λ k. at0 y₁ k +ℤ arms h (copied v) 1 (M h + 1 + k - 1) (M h + k) (M h)) y₁ y₂
    → Filled (λ k. fir h (biased x) (k + M h)) y₀ y₂
fir_filled h x v long a c p =
    filled_then _ c p
    (λ k m.
    let d : M h + 1 + k - 1 ≡ k + M h = omega arith in
    let u : M h + k ≡ k + M h = omega arith in
    rw (d, u) (sym (fir_is h (copied v) (k + M h) (omega arith)))
    ∙ fir_same h (copied v) (biased x) (k + M h) (omega arith) (λ j q. a.is j (omega arith)))

-- the centre alone
pub alone_filled : (x : List ℤ) {old new : List ℤ} → Filled (λ k. pos 8388608 *ℤ biased x k) old new → Filled (λ k. fir alone (biased x) (k + 0)) old new
unfolding arms sum_to
alone_filled x c =
    written_as c
    (λ k m.
    let e : k + 0 ≡ k = omega arith in
    rw e (sym (fir_is alone (biased x) k (omega arith) ∙ +ℤ_idr (pos 8388608 *ℤ biased x k))))

-- the pairs on both sides of a middle
middle_gain : (h x : List ℤ) (v : List ℕ) (n : ℕ) → n + 2 * length h ≤ length x + 1 → Copied (length x) x v → (k : ℕ) → k < n
    → arms h (copied v) 0 (length h + k - 1) (length h + k) (length h - 0) ≡ between_by h (at0 x) (k + length h - 1) +ℤ between_by h ones (length h) *ℤ pos (2 ^ 29)
middle_gain h x v n long a k m =
    let w : length h - 0 ≡ length h = omega arith in
    let d : length h + k - 1 ≡ k + length h - 1 = omega arith in
    rw (w, d) (between_is h (copied v) (k + length h - 1) (length h + k) (λ p. omega arith))
    ∙ between_same h (copied v) (biased x) (k + length h - 1) (λ j p q. a.is j (omega arith))
    ∙ between_bias h x (k + length h - 1)

-- ---- the bias in all is 2^53
pub same_filled : (h x : List ℤ) {old new : List ℤ} → UnityGain h → Filled (λ k. fir h (biased x) (k + M h)) old new → Filled (λ k. same_rate h x k +ℤ pos (2 ^ 53)) old new
unfolding same_rate
same_filled h x f c = written_as c (λ k m. fir_bias h x (k + M h) ∙ ap (λ (z : ℤ). fir h (at0 x) (k + M h) +ℤ z *ℤ pos (2 ^ 29)) f.whole)

-- its taps are those of a filter
pub same_sums : (h x : List ℤ) (v : List ℕ) {y₀ y₁ y₂ : List ℤ} → UnityGain h → length y₀ + 2 * M h ≤ length x → Copied (length x) x v
    → Filled (λ k. tap h 0 *ℤ copied v (M h + k)) y₀ y₁ → Filled (λ k. at0 y₁ k +ℤ arms h (copied v) 1 (M h + 1 + k - 1) (M h + k) (M h)) y₁ y₂
    → Filled (λ k. same_rate h x k +ℤ pos (2 ^ 53)) y₀ y₂
same_sums h x v f long a c p = same_filled h x f (fir_filled h x v long a c p)

pub half_filled : (he ho xe xo : List ℤ) (v : List ℕ) {y₀ y₁ y₂ : List ℤ} → length y₀ + 2 * length ho ≤ length xo + 1 → Copied (length xo) xo v → Phases he ho
    → Filled (λ k. fir he (biased xe) (k + M he)) y₀ y₁ → Filled (λ k. at0 y₁ k +ℤ arms ho (copied v) 0 (length ho + k - 1) (length ho + k) (length ho - 0)) y₁ y₂
    → Filled (λ k. half_rate he ho xe xo k +ℤ pos (2 ^ 53)) y₀ y₂
unfolding half_rate same_rate middle
half_filled he ho xe xo v {y₀} long a f c p =
    filled_then _ c p
    (λ k m.
    ap₂ (λ (y z : ℤ). y +ℤ z) (fir_bias he xe (k + M he)) (middle_gain ho xo v (length y₀) long a k m)
    ∙ join (fir he (at0 xe) (k + M he)) (fir he ones (M he)) (between_by ho (at0 xo) (k + length ho - 1)) (between_by ho ones (length ho)) (pos (2 ^ 29))
    ∙ ap (λ (z : ℤ). fir he (at0 xe) (k + M he) +ℤ between_by ho (at0 xo) (k + length ho - 1) +ℤ z *ℤ pos (2 ^ 29)) f.whole)
  where
    join : (a p b q c : ℤ) → a +ℤ p *ℤ c +ℤ (b +ℤ q *ℤ c) ≡ a +ℤ b +ℤ (p +ℤ q) *ℤ c
    join a p b q c = simp (+ℤ_assoc, +ℤ-left-comm, add_mul)

-- in three steps: the centre's products, the even taps' and the odd ones'
pub half_sums : (he ho xe xo : List ℤ) (ve vo : List ℕ) {y₀ y₁ y₂ y₃ : List ℤ} → length y₀ + 2 * M he ≤ length xe → length y₀ + 2 * length ho ≤ length xo + 1
    → Copied (length xe) xe ve → Copied (length xo) xo vo → Phases he ho → Filled (λ k. tap he 0 *ℤ copied ve (M he + k)) y₀ y₁
    → Filled (λ k. at0 y₁ k +ℤ arms he (copied ve) 1 (M he + 1 + k - 1) (M he + k) (M he)) y₁ y₂
    → Filled (λ k. at0 y₂ k +ℤ arms ho (copied vo) 0 (length ho + k - 1) (length ho + k) (length ho - 0)) y₂ y₃
    → Filled (λ k. half_rate he ho xe xo k +ℤ pos (2 ^ 53)) y₀ y₃
half_sums he ho xe xo ve vo l m a b f c p q = half_filled he ho xe xo vo m b f (fir_filled he xe ve l a c p) q

-- here the taps' part is 2^52, and the sums started with the rest
pub middle_filled : (h x : List ℤ) (v : List ℕ) {y₀ y₁ y₂ : List ℤ} → length y₀ + 2 * length h ≤ length x + 1 → Copied (length x) x v → Between h → Filled (λ k. pos (2 ^ 52)) y₀ y₁
    → Filled (λ k. at0 y₁ k +ℤ arms h (copied v) 0 (length h + k - 1) (length h + k) (length h - 0)) y₁ y₂ → Filled (λ k. middle h x k +ℤ pos (2 ^ 53)) y₀ y₂
unfolding middle
middle_filled h x v {y₀} long a f c p =
    filled_then _ c p
    (λ k m.
    ap (λ (z : ℤ). pos (2 ^ 52) +ℤ z) (middle_gain h x v (length y₀) long a k m ∙ ap (λ (z : ℤ). between_by h (at0 x) (k + length h - 1) +ℤ z *ℤ pos (2 ^ 29)) f.whole)
    ∙ +ℤ-left-comm (pos (2 ^ 52)) (between_by h (at0 x) (k + length h - 1)) (pos (2 ^ 52)))
