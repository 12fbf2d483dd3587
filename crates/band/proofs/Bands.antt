-- The half band's sums: the lanes, and single places.
use Rattle.std.proofs.Common.{arith, ◌≡◌, refl, sym, ◌∙◌, ap, List, ℕ, ◌+◌, ◌-◌, ◌^◌, ◌≤◌, ◌<◌, lit≤, length, ℤ, pos, nat_abs, ◌+ℤ◌, ◌-ℤ◌, ◌*ℤ◌}
use Rattle.numbers.specs.Sums.{at0}
use Rattle.numbers.specs.Lists.{tabulate}
use Rattle.numbers.specs.inner.Lists.{Held, Written}
use Rattle.numbers.proofs.Lists.{length_tabulate, get_d_tabulate, written_then, written_as, written_all}
use Rattle.numbers.proofs.Integers.{abs_add}
use Rattle.reference.specs.Rounding.{R}
use Rattle.reference.specs.Taps.{HB}
use Rattle.lanes.specs.inner.Lanes.{Filled, copied, arms, Added}
use Rattle.filters.specs.inner.Filters.{alone, odd_taps, half_rate, middle, Fit}
use Rattle.filters.specs.inner.Biases.{biased, rounded, Sums, Copied}
use Rattle.band.specs.inner.Bands.{band_sum, Whole}
use Rattle.lanes.proofs.Pairs.{product_size}
use Rattle.filters.proofs.Bias.{back, alone_filled, half_filled, middle_filled, filled_sums}
use Rattle.filters.proofs.Signals.{length_odd, halves_phases}
use Rattle.filters.proofs.Tables.{filter_HB, halves_HB, between_HB}

-- what place k is to hold
abbrev pub done : ℕ → List ℤ → List ℕ → ℕ → ℤ
done q y v k = R (band_sum y v k -ℤ pos (2 ^ 53)) q

-- the lanes from place i on
pub lane_sums : {L : ℕ} (y : List ℤ) (v : List ℕ) (i : ℕ) {s₀ s₁ : List ℤ} → Held (pos 0) (λ k. pos 8388608 *ℤ biased y k) i L s₀
    → Added L (λ l. arms (odd_taps HB) (copied v) 0 (8 + (i + l) - 1) (8 + (i + l)) 8) s₀ s₁ → (l : ℕ) → l < L → at0 s₁ l ≡ band_sum y v (i + l)
unfolding band_sum
lane_sums y v i a g l m = g.is l m ∙ ap (λ (z : ℤ). z +ℤ arms (odd_taps HB) (copied v) 0 (8 + (i + l) - 1) (8 + (i + l)) 8) (a.is l m)

pub whole_sums : {L : ℕ} (y₀ : List ℤ) (v : List ℕ) (i : ℕ) {s : List ℤ} → Whole (band_sum y₀ v) i (i + L) → ((l : ℕ) → l < L → at0 s l ≡ band_sum y₀ v (i + l)) → Sums L s
whole_sums y₀ v i w e = record { is = λ l m. rw (e l m) (w.is (i + l) (omega arith) (omega arith)); size = λ l m. rw (e l m) (w.size (i + l) (omega arith) (omega arith)) }

-- a y that is as it was at place k
pub band_same : (y₀ y : List ℤ) (v : List ℕ) (k : ℕ) → at0 y k ≡ at0 y₀ k → band_sum y v k ≡ band_sum y₀ v k
unfolding band_sum biased
band_same y₀ y v k e = ap (λ (z : ℤ). pos 8388608 *ℤ (z +ℤ pos (2 ^ 29)) +ℤ arms (odd_taps HB) (copied v) 0 (8 + k - 1) (8 + k) 8) e

-- a block's part of what is known of all sums
pub whole_part : (y₀ y : List ℤ) (v : List ℕ) (i j : ℕ) {n : ℕ} → Whole (band_sum y₀ v) 0 n → ((k : ℕ) → i ≤ k → at0 y k ≡ at0 y₀ k) → j ≤ n → Whole (band_sum y v) i j
whole_part y₀ y v i j w e l =
    record {
      is = λ k p q. rw (band_same y₀ y v k (e k p)) (w.is k (omega arith) (omega arith));
      size = λ k p q. rw (band_same y₀ y v k (e k p)) (w.size k (omega arith) (omega arith));
    }

-- a block more is done
pub done_then : (q : ℕ) (y₀ : List ℤ) (v : List ℕ) {i k L : ℕ} {mid new : List ℤ} → Written (pos 0) (λ n. n) (done q y₀ v) i y₀ mid
    → Written (pos 0) (λ l. i + l) (λ l. done q mid v (i + l)) L mid new → i + L ≡ k → Written (pos 0) (λ n. n) (done q y₀ v) k y₀ new
done_then q y₀ v {i} {mid = mid} u w e =
    rw e at
    (written_then u w (λ l m. refl) (λ j l m n. omega arith)
    (λ l m. ap (λ (z : ℤ). R (z -ℤ pos (2 ^ 53)) q) (band_same y₀ mid v (i + l) (u.kept (i + l) (λ j n. omega arith)))))

pub centre_fits : (y : List ℤ) (k : ℕ) → nat_abs (at0 y k) ≤ 2 ^ 29 → nat_abs (pos 8388608 *ℤ biased y k) ≤ 2 ^ 55
unfolding biased
centre_fits y k m = product_size (pos 8388608) (at0 y k +ℤ pos (2 ^ 29)) (2 ^ 30) (lit≤ tt) (omega (arith, abs_add (at0 y k) (pos (2 ^ 29))))

pub rounded_is : (q : ℕ) (y₀ : List ℤ) (v : List ℕ) (s : List ℤ) (i l : ℕ) → at0 s l ≡ band_sum y₀ v (i + l) → rounded q s l ≡ done q y₀ v (i + l)
unfolding rounded
rounded_is q y₀ v s i l e = ap (λ (z : ℤ). R (z -ℤ pos (2 ^ 53)) q) e

band_is : (y : List ℤ) (v : List ℕ) (k : ℕ) → pos 8388608 *ℤ biased y k +ℤ arms (odd_taps HB) (copied v) 0 (8 + k - 1) (8 + k) 8 ≡ band_sum y v k
unfolding band_sum
band_is y v k = refl

-- ---- over the copy of xo these are the sums of HB, biased by 2^53
pub odd_eight : length (odd_taps HB) ≡ 8
unfolding HB
odd_eight = length_odd HB

module _ (y xo : List ℤ) (v : List ℕ) (long : length y + 15 ≤ length xo) (a : Copied (length xo) xo v) where
  first : List ℤ
  first = tabulate (λ k. pos 8388608 *ℤ biased y k) 0 (length y)

  second : List ℤ
  second = tabulate (band_sum y v) 0 (length y)

  second_at : (k : ℕ) → k < length y → at0 second k ≡ band_sum y v k
  unfolding second
  second_at k m = get_d_tabulate (band_sum y v) 0 (length y) k (pos 0) m ∙ ap (band_sum y v) (omega arith)

  first_filled : Filled (λ k. pos 8388608 *ℤ biased y k) y first
  unfolding first
  first_filled =
      written_all (length_tabulate (λ k. pos 8388608 *ℤ biased y k) 0 (length y))
      (λ k m. get_d_tabulate (λ k. pos 8388608 *ℤ biased y k) 0 (length y) k (pos 0) m ∙ ap (λ (j : ℕ). pos 8388608 *ℤ biased y j) (omega arith))

  second_filled : Filled (λ k. at0 first k +ℤ arms (odd_taps HB) (copied v) 0 (length (odd_taps HB) + k - 1) (length (odd_taps HB) + k) (length (odd_taps HB) - 0)) first second
  unfolding second
  second_filled =
      written_all (length_tabulate (band_sum y v) 0 (length y) ∙ sym first_filled.same)
      (λ k m.
      let n : k < length y = omega (arith, first_filled.same) in
      rw odd_eight (second_at k n ∙ sym (band_is y v k) ∙ ap (λ (z : ℤ). z +ℤ arms (odd_taps HB) (copied v) 0 (8 + k - 1) (8 + k) 8) (sym (first_filled.done k n))))

  biased_sums : Filled (λ k. half_rate alone (odd_taps HB) y xo k +ℤ pos (2 ^ 53)) y second
  biased_sums = half_filled alone (odd_taps HB) y xo v (omega (arith, odd_eight)) a (halves_phases halves_HB filter_HB) (alone_filled y first_filled) second_filled

  module _ (F : ℕ → ℤ) (sums : Filled (λ k. F k +ℤ pos (2 ^ 53)) y second) where
    whole_of : Fit F (length y) → Whole (band_sum y v) 0 (length y)
    whole_of f =
        let s = filled_sums F sums (length y) (omega arith) f in
        record { is = λ k l m. rw (second_at k m) at (s.is k m); size = λ k l m. rw (second_at k m) at (s.size k m) }

    rounded_of : (q : ℕ) {y' : List ℤ} → Filled (done q y v) y y' → Filled (λ k. R (F k) q) y y'
    rounded_of q u =
        written_as u
        (λ k m. ap (λ (z : ℤ). R (z -ℤ pos (2 ^ 53)) q) (sym (second_at k m) ∙ sums.done k m) ∙ ap (λ (z : ℤ). R z q) (back (F k) (pos (2 ^ 53))))

  pub band_whole : Fit (half_rate alone (odd_taps HB) y xo) (length y) → Whole (band_sum y v) 0 (length y)
  band_whole f = whole_of (half_rate alone (odd_taps HB) y xo) biased_sums f

  pub band_rounded : {y' : List ℤ} → Filled (done 24 y v) y y' → Filled (λ k. R (half_rate alone (odd_taps HB) y xo k) 24) y y'
  band_rounded u = rounded_of (half_rate alone (odd_taps HB) y xo) biased_sums 24 u

  -- over zeros they are those between the places of xo
  module _ (none : (k : ℕ) → k < length y → at0 y k ≡ pos 0) where
    level : Filled (λ k. pos (2 ^ 52)) y first
    unfolding biased
    level = written_as first_filled (λ k m. rw (none k m) refl)

    middle_sums : Filled (λ k. middle (odd_taps HB) xo k +ℤ pos (2 ^ 53)) y second
    middle_sums = middle_filled (odd_taps HB) xo v (omega (arith, odd_eight)) a between_HB level second_filled

    pub middle_whole : Fit (middle (odd_taps HB) xo) (length y) → Whole (band_sum y v) 0 (length y)
    middle_whole f = whole_of (middle (odd_taps HB) xo) middle_sums f

    pub middle_rounded : {y' : List ℤ} → Filled (done 23 y v) y y' → Filled (λ k. R (middle (odd_taps HB) xo k) 23) y y'
    middle_rounded u = rounded_of (middle (odd_taps HB) xo) middle_sums 23 u
