-- Taps as i64: their sums as far as they are added up, and the test of the sums.
use Rattle.std.proofs.Common.{◌≡◌, refl, ap, sym, ◌∙◌, Bool, true, false, not, ◌&&◌, List, ℕ, suc, ◌+◌, ◌-◌, ◌*◌, ◌^◌, ◌≤◌, ◌<◌, arith, leb-true, leb, ℤ, pos}
use Rattle.std.proofs.Common.{negsuc, nat_abs, ◌+ℤ◌, ◌*ℤ◌, length, take, length-take, w32, w64, SFits, to_z, of_z, to_z-of_z}
use lib.Signed.{mag, le_z}
use Rattle.numbers.specs.Lists.{total}
use Rattle.numbers.specs.Sums.{sum_to}
use Rattle.numbers.proofs.Integers.{abs_add, abs_mul, sfits_abs}
use Rattle.numbers.proofs.Machine.{t, wide_is}
use Rattle.reference.specs.Refusals.{accepted, error_decision, decide, right_sums, filter_places}
use Rattle.reference.specs.Stages.{tap, taps_of, whole_sum, whole_size}
use Rattle.reference.specs.declared.Filter.{Filter}
use Rattle.reference.specs.declared.PcmError.TheVariants as error
use Rattle.reference.proofs.Refusals.{at_first, at_next, at_end, below_range, above_range, in_range}

pub tap_size : (z : ℤ) → mag z < 2 ^ 31 → nat_abs z ≤ 2 ^ 31
tap_size (pos n) h = omega arith
tap_size (negsuc n) h = omega arith

narrow_is : (z : ℤ) → mag z < 2 ^ 31 → to_z w32 (of_z w32 z) ≡ z
narrow_is z m = to_z-of_z {w = w32} (record { sfits = m })

-- taps 1, …, k - 1 are added up
pub record Added (h : List ℤ) (k : ℕ) (sum : ℤ) (size : ℕ) : Type 0 where
  pub some : 1 ≤ k
  pub inside : k ≤ length h
  pub is_sum : sum ≡ sum_to (k - 1) (λ j. tap h (1 + j))
  pub is_size : size ≡ total (λ j. nat_abs (tap h j)) 1 (k - 1)
  pub small_sum : nat_abs sum ≤ (k - 1) * 2 ^ 31
  pub small : size ≤ (k - 1) * 2 ^ 31

pub none_added : (h : List ℤ) → 0 < length h → Added h 1 (pos 0) 0
unfolding sum_to total
none_added h l = record { some = omega arith; inside = l; is_sum = refl; is_size = refl; small_sum = omega arith; small = omega arith }

module _ {h : List ℤ} {k : ℕ} {sum : ℤ} {size : ℕ} (a : Added h k sum size) (few : length h ≤ 117) (more : k < length h) (m : mag (tap h k) < 2 ^ 31) where
  bounds : nat_abs sum + nat_abs (tap h k) ≤ k * 2 ^ 31
  bounds = let s = a.some in omega (arith, a.small_sum, tap_size (tap h k) m)

  pub next_fits : SFits w64 (sum +ℤ t (to_z w32 (of_z w32 (tap h k))))
  next_fits = rw (wide_is (tap h k) m) (sfits_abs (omega (arith, abs_add sum (tap h k), bounds)))

  pub next_size : {r : ℕ} → r ≡ nat_abs (to_z w32 (of_z w32 (tap h k))) → size + r ≤ k * 2 ^ 31
  next_size e = let s = a.some in omega (arith, e, ap nat_abs (narrow_is (tap h k) m), a.small, tap_size (tap h k) m)

  pub one_added : {r : ℕ} → r ≡ nat_abs (to_z w32 (of_z w32 (tap h k))) → Added h (k + 1) (t (sum +ℤ t (to_z w32 (of_z w32 (tap h k))))) (size + r)
  unfolding sum_to total
  one_added {r} e =
      let s = a.some in
      let n : k + 1 - 1 ≡ suc (k - 1) = omega arith in
      let at : 1 + (k - 1) ≡ k = omega arith in
      let v : t (sum +ℤ t (to_z w32 (of_z w32 (tap h k)))) ≡ sum +ℤ tap h k = to_z-of_z next_fits ∙ ap (λ (z : ℤ). sum +ℤ z) (wide_is (tap h k) m) in
      let w : r ≡ nat_abs (tap h k) = e ∙ ap nat_abs (narrow_is (tap h k) m) in
      record {
        some = omega arith;
        inside = omega arith;
        is_sum = v ∙ rw (n, at, a.is_sum) refl;
        is_size = rw (n, at, w, a.is_size) refl;
        small_sum = rw (v, n) (omega (arith, abs_add sum (tap h k), bounds));
        small = rw n (omega (arith, next_size e));
      }

-- all of them
module _ {h : List ℤ} {k : ℕ} {sum : ℤ} {size : ℕ} (a : Added h k sum size) (few : length h ≤ 117) (all : length h ≤ k) (m : mag (tap h 0) < 2 ^ 31) where
  end : k ≡ length h
  end = omega (arith, a.inside)

  twice : nat_abs (sum *ℤ pos 2) ≤ 116 * 2 ^ 32
  twice = omega (arith, abs_mul sum (pos 2), a.small_sum, end)

  pub twice_fits : SFits w64 (sum *ℤ pos 2)
  twice_fits = sfits_abs (omega (arith, twice))

  pub sum_fits_2 : SFits w64 (t (to_z w32 (of_z w32 (tap h 0))) +ℤ t (sum *ℤ pos 2))
  sum_fits_2 = rw (wide_is (tap h 0) m, to_z-of_z twice_fits) (sfits_abs (omega (arith, abs_add (tap h 0) (sum *ℤ pos 2), twice, tap_size (tap h 0) m)))

  pub sum_whole : t (t (to_z w32 (of_z w32 (tap h 0))) +ℤ t (sum *ℤ pos 2)) ≡ whole_sum h
  unfolding whole_sum
  sum_whole = to_z-of_z sum_fits_2 ∙ rw (wide_is (tap h 0) m, to_z-of_z twice_fits, a.is_sum, end) refl

  pub sum_small : nat_abs (t (t (to_z w32 (of_z w32 (tap h 0))) +ℤ t (sum *ℤ pos 2))) < 2 ^ 63
  sum_small = rw (to_z-of_z sum_fits_2, wide_is (tap h 0) m, to_z-of_z twice_fits) (omega (arith, abs_add (tap h 0) (sum *ℤ pos 2), twice, tap_size (tap h 0) m))

  pub size_small : {r : ℕ} → r ≡ nat_abs (to_z w32 (of_z w32 (tap h 0))) → r + 2 * size ≤ 117 * 2 ^ 32
  size_small e = omega (arith, e, ap nat_abs (narrow_is (tap h 0) m), a.small, tap_size (tap h 0) m, end)

  pub size_whole : {r : ℕ} → r ≡ nat_abs (to_z w32 (of_z w32 (tap h 0))) → r + 2 * size ≡ whole_size h
  unfolding whole_size
  size_whole e = rw (e, narrow_is (tap h 0) m, a.is_size, end) refl

-- ---- the test

-- tests of a number from both sides: unless it is n, one fails
apart : (z : ℤ) (n : ℕ) (b : Bool) → (z ≡ pos n → ⊥) → false ≡ le_z z (pos n) && le_z (pos n) z && b
apart (negsuc m) n b ne = refl
apart (pos m) n b ne = go (leb m n) (leb n m) refl refl
  where
    go : (x y : Bool) → leb m n ≡ x → leb n m ≡ y → false ≡ x && y && b
    go false y e f = refl
    go true false e f = refl
    go true true e f = absurd (ne (ap pos (omega (arith, leb-true m n e, leb-true n m f))))

-- by the sum's bits
module _ (h : List ℤ) {r : ℤ} (is : r ≡ whole_sum h) (small : nat_abs r < 2 ^ 63) where
  back : t r ≡ whole_sum h
  back = to_z-of_z (sfits_abs {w = w64} small) ∙ is

  pub right_sum : of_z w64 r ≡ 16777216 → {size : ℕ} → size ≡ whole_size h → leb size 40000000 ≡ right_sums h
  unfolding right_sums
  right_sum e s =
      let n : whole_sum h ≡ pos 16777216 = sym back ∙ ap (to_z w64) e in
      rw (n, s) refl

  pub wrong_sum : (of_z w64 r ≡ 16777216 → ⊥) → false ≡ right_sums h
  unfolding right_sums
  wrong_sum ne = apart (whole_sum h) 16777216 (leb (whole_size h) 40000000) (λ e. ne (ap (of_z w64) (is ∙ e)))

-- ---- a filter's places

module _ (f : Filter) where
  pub too_few : f.count < 1 → error_decision error.Taps ≡ decide (filter_places f)
  unfolding filter_places
  too_few h = sym (at_first _ _ (below_range 117 f.count h))

  pub too_many : 1 ≤ f.count → 117 < f.count → error_decision error.Taps ≡ decide (filter_places f)
  unfolding filter_places
  too_many h k = sym (at_first _ _ (above_range 117 f.count h k))

  module _ (some : 1 ≤ f.count) (few : f.count ≤ 117) where
    pub wrong_sums : right_sums (taps_of f) ≡ false → error_decision error.TapSums ≡ decide (filter_places f)
    unfolding filter_places
    wrong_sums e = sym (at_next _ _ (in_range 117 f.count some few) ∙ at_first _ _ (ap not e))

    pub taken : right_sums (taps_of f) ≡ true → accepted ≡ decide (filter_places f)
    unfolding filter_places
    taken e = sym (at_next _ _ (in_range 117 f.count some few) ∙ (at_next _ _ (ap not e) ∙ at_end))

    pub some_taps : length f.taps ≡ 117 → 0 < length (taps_of f)
    unfolding taps_of
    some_taps e = omega (arith, e, length-take f.count (take 117 f.taps), length-take 117 f.taps)
