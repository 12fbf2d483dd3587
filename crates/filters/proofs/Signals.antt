-- From a block to the signal that it is a part of: each place of the output is the reference's sum over the signal. For
-- every filter h.
use Rattle.std.proofs.Common.{◌≡◌, refl, sym, ◌∙◌, ap, ap₂, List, ⊎_elim, ℕ, zero, suc, ◌+◌, ◌-◌, ◌*◌, ◌/◌, ◌^◌, ◌<◌, ◌≤◌, eq-or-lt_of_le, arith, ℤ, pos}
use Rattle.std.proofs.Common.{nat_abs, ◌+ℤ◌, ◌*ℤ◌, length}
use lib.IntN.{+ℤ_assoc, +ℤ_comm, +ℤ_idr, zero-*ℤ}
use lib.ListN.{get_or-eq_default}
use Rattle.numbers.specs.Sums.{sum_to, apart, at0}
use Rattle.numbers.specs.Lists.{tabulate}
use Rattle.numbers.specs.inner.Lists.{Held}
use Rattle.numbers.proofs.Integers.{+ℤ-left-comm}
use Rattle.numbers.proofs.Sums.{sum_same}
use Rattle.numbers.proofs.Lists.{below_or, length_tabulate, get_d_tabulate, is_tabulate}
use Rattle.reference.specs.Rounding.{R}
use Rattle.reference.specs.Stages.{tap, M, fir}
use Rattle.lanes.specs.inner.Lanes.{Small, Filled, arms}
use Rattle.filters.specs.inner.Filters.{even_taps, odd_taps, between_by, same_rate, middle, half_rate, Fit, ones, UnityGain, Phases}
use Rattle.filters.proofs.Pairs.{fir_is}

-- 0 past the end
pub past : (l : List ℤ) (k : ℕ) → length l ≤ k → at0 l k ≡ pos 0
past l k m = get_or-eq_default l (pos 0) {n = k} m

-- ---- `Held (pos 0) S base n x`: the first n places of x are S from place `base` on
pub filled_held : {f S : ℕ → ℤ} {base : ℕ} {old new : List ℤ} → Filled f old new → ((i : ℕ) → i < length old → f i ≡ S (base + i)) → Held (pos 0) S base (length old) new
filled_held u e = record { is = λ k m. u.done k m ∙ e k m }

pub held_small : {S : ℕ → ℤ} {base n X : ℕ} {x : List ℤ} → Held (pos 0) S base n x → length x ≤ n → ((k : ℕ) → nat_abs (S k) ≤ X) → Small X x
held_small {base} {n} {x} b l s =
    record { size = λ i. ⊎_elim (λ (m : i < n). rw (b.is i m) (s (base + i))) (λ (m : n ≤ i). rw (past x i (omega arith)) (omega arith)) (below_or i n) }

-- ---- at the same rate
module _ {S : ℕ → ℤ} {base n : ℕ} {x : List ℤ} (h : List ℤ) (b : Held (pos 0) S base n x) where
  pub same_signal : (i : ℕ) → i + 2 * M h < n → same_rate h x i ≡ fir h S (base + i + M h)
  unfolding same_rate fir
  same_signal i l =
      sum_same (M h + M h + 1) _ _
      (λ k m. ap (λ (z : ℤ). tap h (apart k (M h)) *ℤ z) (b.is (i + M h - M h + k) (omega arith) ∙ ap S (omega arith)))

  -- the output holds the next signal
  pub same_held : {old new : List ℤ} → Filled (λ i. R (same_rate h x i) 24) old new → length old + 2 * M h ≤ n → Held (pos 0) (λ k. R (fir h S k) 24) (base + M h) (length old) new
  same_held u l = filled_held u (λ i m. ap (λ (z : ℤ). R z 24) (same_signal i (omega arith) ∙ ap (fir h S) (omega arith)))

-- ---- between the places of x
module _ {S : ℕ → ℤ} {base n : ℕ} {x : List ℤ} (h : List ℤ) (b : Held (pos 0) S base n x) where
  pub middle_signal : (i : ℕ) → i + 2 * length h ≤ n → middle h x i ≡ between_by h S (base + i + length h - 1)
  unfolding middle between_by
  middle_signal i l =
      sum_same (length h) _ _
      (λ j m. ap₂ (λ (y z : ℤ). tap h j *ℤ (y +ℤ z)) (b.is (i + length h - 1 - j) (omega arith) ∙ ap S (omega arith)) (b.is (i + length h - 1 + 1 + j) (omega arith) ∙ ap S (omega arith)))

  pub middle_held : {old new : List ℤ} → Filled (λ i. R (middle h x i) 23) old new → 0 < length h → length old + 2 * length h ≤ n + 1
      → Held (pos 0) (λ k. R (between_by h S k) 23) (base + length h - 1) (length old) new
  middle_held u some l = filled_held u (λ i m. ap (λ (z : ℤ). R z 23) (middle_signal i (omega arith) ∙ ap (between_by h S) (omega arith)))

-- ---- half the rate: he and ho are the even and the odd taps of h
pub record Halves (h he ho : List ℤ) : Type 0 where
  pub even : (k : ℕ) → tap he k ≡ tap h (2 * k)
  pub odd : (k : ℕ) → tap ho k ≡ tap h (2 * k + 1)
  pub evens : M he ≤ length ho
  pub all : M h ≤ 2 * length ho

-- a table of f up to n, f being 0 from there on
table_at : (f : ℕ → ℤ) (n k : ℕ) → ((j : ℕ) → n ≤ j → f j ≡ pos 0) → tap (tabulate f 0 n) k ≡ f k
table_at f n k e =
    ⊎_elim (λ (l : k < n). get_d_tabulate f 0 n k (pos 0) l ∙ ap f (omega arith))
    (λ (l : n ≤ k). past (tabulate f 0 n) k (omega (arith, length_tabulate f 0 n)) ∙ sym (e k l))
    (below_or k n)

even_at : (h : List ℤ) (k : ℕ) → tap (even_taps h) k ≡ tap h (2 * k)
unfolding even_taps
even_at h k = table_at (λ j. tap h (2 * j)) ((length h + 1) / 2) k (λ j l. past h (2 * j) (omega arith))

odd_at : (h : List ℤ) (k : ℕ) → tap (odd_taps h) k ≡ tap h (2 * k + 1)
unfolding odd_taps
odd_at h k = table_at (λ j. tap h (2 * j + 1)) (length h / 2) k (λ j l. past h (2 * j + 1) (omega arith))

pub length_even : (h : List ℤ) → length (even_taps h) ≡ (length h + 1) / 2
unfolding even_taps
length_even h = length_tabulate (λ j. tap h (2 * j)) 0 ((length h + 1) / 2)

pub length_odd : (h : List ℤ) → length (odd_taps h) ≡ length h / 2
unfolding odd_taps
length_odd h = length_tabulate (λ j. tap h (2 * j + 1)) 0 (length h / 2)

-- a list that every second tap was copied to
pub is_even : {old new : List ℤ} (h : List ℤ) → Filled (λ k. at0 h (2 * k + 0)) old new → length old ≡ (length h + 1) / 2 → new ≡ even_taps h
unfolding even_taps
is_even {new} h u e =
    is_tabulate (λ j. tap h (2 * j)) 0 ((length h + 1) / 2) (pos 0) new (u.same ∙ e) (λ i m. u.done i (omega arith) ∙ ap (tap h) (omega arith))

pub is_odd : {old new : List ℤ} (h : List ℤ) → Filled (λ k. at0 h (2 * k + 1)) old new → length old ≡ length h / 2 → new ≡ odd_taps h
unfolding odd_taps
is_odd {new} h u e =
    is_tabulate (λ j. tap h (2 * j + 1)) 0 (length h / 2) (pos 0) new (u.same ∙ e) (λ i m. u.done i (omega arith) ∙ ap (tap h) (omega arith))

pub split_halves : (h : List ℤ) → Halves h (even_taps h) (odd_taps h)
split_halves h = record { even = even_at h; odd = odd_at h; evens = omega (arith, length_even h, length_odd h); all = omega (arith, length_odd h) }

-- a sum by its even and odd places; a sum whose last terms are 0
sum_two : (n : ℕ) (f : ℕ → ℤ) → sum_to (n + n) f ≡ sum_to n (λ j. f (j + j + 1)) +ℤ sum_to n (λ j. f (j + j))
unfolding sum_to
sum_two zero f = refl
sum_two (suc n) f =
    let e : suc n + suc n ≡ suc (suc (n + n)) = omega arith in
    let d : suc (n + n) ≡ n + n + 1 = omega arith in
    ap (λ (m : ℕ). sum_to m f) e
    ∙ ap₂ (λ (a b : ℤ). a +ℤ f (n + n) +ℤ b) (sum_two n f) (ap f d)
    ∙ four (sum_to n (λ j. f (j + j + 1))) (sum_to n (λ j. f (j + j))) (f (n + n)) (f (n + n + 1))
  where
    four : (a b x y : ℤ) → a +ℤ b +ℤ x +ℤ y ≡ a +ℤ y +ℤ (b +ℤ x)
    four a b x y = simp (+ℤ_assoc, +ℤ_comm, +ℤ-left-comm)

sum_cut : (n m : ℕ) (f : ℕ → ℤ) → m ≤ n → ((k : ℕ) → m ≤ k → f k ≡ pos 0) → sum_to n f ≡ sum_to m f
unfolding sum_to
sum_cut zero m f l e = let d : 0 ≡ m = omega arith in ap (λ (k : ℕ). sum_to k f) d
sum_cut (suc n) m f l e =
    ⊎_elim (λ (d : m ≡ suc n). ap (λ (k : ℕ). sum_to k f) (sym d))
    (λ (d : m < suc n). ap₂ (λ (a b : ℤ). a +ℤ b) (sum_cut n m f (omega arith) e) (e n (omega arith)) ∙ +ℤ_idr (sum_to m f))
    (eq-or-lt_of_le l)

module _ {h he ho : List ℤ} (t : Halves h he ho) where
  module _ (S : ℕ → ℤ) (g : ℕ) (low : length ho ≤ g) where
    -- the pair at distance d from 2 g
    arm : ℕ → ℤ
    arm d = tap h d *ℤ (S (2 * g - d) +ℤ S (2 * g + d))

    none : (d : ℕ) → tap h d ≡ pos 0 → arm d ≡ pos 0
    unfolding arm
    none d e = ap (λ (z : ℤ). z *ℤ (S (2 * g - d) +ℤ S (2 * g + d))) e ∙ zero-*ℤ (S (2 * g - d) +ℤ S (2 * g + d))

    whole : arms h S 1 (2 * g) (2 * g) (M h) ≡ sum_to (length ho + length ho) (λ k. arm (1 + k))
    unfolding arms arm
    whole = sym (sum_cut (length ho + length ho) (M h) (λ k. arm (1 + k)) (omega (arith, t.all)) (λ k l. none (1 + k) (past h (1 + k) (omega arith))))

    evens_are : sum_to (length ho) (λ j. arm (1 + (j + j + 1))) ≡ arms he (λ k. S (2 * k)) 1 g g (M he)
    unfolding arms arm
    evens_are =
        sum_cut (length ho) (M he) (λ j. arm (1 + (j + j + 1))) t.evens (λ j l. none (1 + (j + j + 1)) (ap (tap h) (omega arith) ∙ sym (t.even (1 + j)) ∙ past he (1 + j) (omega arith)))
        ∙ sum_same (M he) _ _
        (λ j l. ap₂ (λ (y z : ℤ). y *ℤ z) (ap (tap h) (omega arith) ∙ sym (t.even (1 + j))) (ap₂ (λ (a b : ℕ). S a +ℤ S b) (omega (arith, t.evens)) (omega arith)))

    odds_are : sum_to (length ho) (λ j. arm (1 + (j + j))) ≡ between_by ho (λ k. S (2 * k + 1)) (g - 1)
    unfolding between_by arm
    odds_are =
        sum_same (length ho) _ _
        (λ j l. ap₂ (λ (y z : ℤ). y *ℤ z) (ap (tap h) (omega arith) ∙ sym (t.odd j)) (ap₂ (λ (a b : ℕ). S a +ℤ S b) (omega arith) (omega arith)))

    pub fir_halves : fir h S (2 * g) ≡ fir he (λ k. S (2 * k)) g +ℤ between_by ho (λ k. S (2 * k + 1)) (g - 1)
    fir_halves =
        fir_is h S (2 * g) (omega (arith, t.all))
        ∙ ap₂ (λ (y z : ℤ). y *ℤ S (2 * g) +ℤ z) (sym (t.even 0)) (whole ∙ sum_two (length ho) (λ k. arm (1 + k)) ∙ ap₂ (λ (y z : ℤ). y +ℤ z) evens_are odds_are)
        ∙ sym (+ℤ_assoc (tap he 0 *ℤ S (2 * g)) (arms he (λ k. S (2 * k)) 1 g g (M he)) (between_by ho (λ k. S (2 * k + 1)) (g - 1)))
        ∙ ap (λ (z : ℤ). z +ℤ between_by ho (λ k. S (2 * k + 1)) (g - 1)) (sym (fir_is he (λ k. S (2 * k)) g (omega (arith, t.evens))))

  -- xe holds S at even places from 2 E on, xo at odd ones from 2 D + 1 on
  module _ (S : ℕ → ℤ) {E D n o : ℕ} {xe xo : List ℤ} (p : Held (pos 0) (λ k. S (2 * k)) E n xe) (q : Held (pos 0) (λ k. S (2 * k + 1)) D o xo) (e : E + M he ≡ D + length ho) where
    pub half_signal : (i : ℕ) → i + 2 * M he < n → i + 2 * length ho ≤ o → half_rate he ho xe xo i ≡ fir h S (2 * (E + M he + i))
    unfolding half_rate
    half_signal i l m =
        let a : E + i + M he ≡ E + M he + i = omega arith in
        let d : D + i + length ho - 1 ≡ E + M he + i - 1 = omega arith in
        ap₂ (λ (y z : ℤ). y +ℤ z) (same_signal he p i l ∙ ap (fir he (λ k. S (2 * k))) a) (middle_signal ho q i m ∙ ap (between_by ho (λ k. S (2 * k + 1))) d)
        ∙ sym (fir_halves S (E + M he + i) (omega arith))

    pub half_fit : (m : ℕ) → m + 2 * M he ≤ n → m + 2 * length ho ≤ o + 1 → ((c : ℕ) → nat_abs (fir h S c) ≤ 2 ^ 53) → Fit (half_rate he ho xe xo) m
    half_fit m l r s = record { fits = λ i a. rw (half_signal i (omega arith) (omega arith)) (s (2 * (E + M he + i))) }

    -- the output holds the next signal
    pub half_held : {old new : List ℤ} → Filled (λ i. R (half_rate he ho xe xo i) 24) old new → length old + 2 * M he ≤ n → length old + 2 * length ho ≤ o + 1
        → Held (pos 0) (λ k. R (fir h S (2 * k)) 24) (E + M he) (length old) new
    half_held u l m = filled_held u (λ i a. ap (λ (z : ℤ). R z 24) (half_signal i (omega arith) (omega arith)))

  -- a filter's halves are as its taps are
  pub halves_phases : UnityGain h → Phases he ho
  unfolding fir between_by
  halves_phases f =
      record {
        small_even = record { size = λ k. rw (t.even k) (f.small.size (2 * k)) };
        small_odd = record { size = λ k. rw (t.odd k) (f.small.size (2 * k + 1)) };
        whole = sym (fir_halves ones (length ho) (omega arith)) ∙ f.whole;
      }
