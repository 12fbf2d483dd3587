-- What the filters of `filters` give over the first e places of an array that holds a signal; the taps of a filter in
-- halves; and the values between those of w.
use Rattle.std.proofs.Common.{◌≡◌, refl, ◌∙◌, ap, List, ℕ, ◌+◌, ◌-◌, ◌*◌, ◌/◌, ◌%◌, ◌^◌, ◌≤◌, ◌<◌, arith, ℤ, pos, nat_abs, ◌+ℤ◌, length, take, drop}
use Rattle.std.proofs.Common.{length-append, get_or-take, take_at, drop_at, take_all}
use Rattle.numbers.specs.Sums.{at0}
use Rattle.numbers.specs.Lists.{total, tabulate}
use Rattle.numbers.specs.inner.Lists.{Held}
use Rattle.numbers.specs.inner.Parts.{interleaved}
use Rattle.numbers.proofs.Integers.{abs_add}
use Rattle.numbers.proofs.Sums.{sum_size}
use Rattle.reference.specs.Rounding.{R}
use Rattle.reference.specs.Taps.{HB, F40, F80}
use Rattle.reference.specs.Stages.{tap, M, fir, between, w, y_narrow}
use Rattle.reference.specs.declared.PcmRate.TheVariants.{Hz352800}
use Rattle.reference.proofs.Locality.{F40_last, F80_last}
use Rattle.reference.proofs.Sizes.{F40_sum}
use Rattle.lanes.specs.inner.Lanes.{Small, Filled}
use Rattle.filters.specs.inner.Filters.{even_taps, odd_taps, between_by, same_rate, middle, Fit}
use Rattle.filters.proofs.Signals.{filled_held, same_signal, same_held, middle_held, length_even, length_odd}
use Rattle.filters.proofs.Tables.{between_is_HB, filter_F40, filter_F80, absolute_F80}
use Rattle.routes.specs.inner.Routes.{LowPass, HalvedFilter, halves_of}
use Rattle.routes.proofs.Arrays.{part_held, held_at}

module _ {S : ℕ → ℤ} {a n : ℕ} {x : List ℤ} (held : Held (pos 0) S a n x) (e : ℕ) (inside : e ≤ n) (h : List ℤ) where
  front : Held (pos 0) S a e (take e x)
  front = record { is = λ k q. get_or-take e x k (pos 0) q ∙ held.is k (omega arith) }

  pub fir1_gives : {old new : List ℤ} (b : ℕ) → a + M h ≡ b → Filled (λ i. R (same_rate h (take e x) i) 24) old new → length old + 2 * M h ≤ e
      → Held (pos 0) (λ k. R (fir h S k) 24) b (length old) new
  fir1_gives b at filled l = held_at b (omega arith) (same_held h front filled (omega arith))

  -- at half the rate
  pub halved_gives : {old new : List ℤ} (b : ℕ) → a + M h ≡ 2 * b → Filled (λ i. R (same_rate h (take e x) (2 * i)) 24) old new → 2 * length old + 2 * M h ≤ e + 1
      → Held (pos 0) (λ k. R (fir h S (2 * k)) 24) b (length old) new
  halved_gives b at filled l = filled_held filled (λ i m. ap (λ (z : ℤ). R z 24) (same_signal h front (2 * i) (omega arith) ∙ ap (fir h S) (omega arith)))

-- ---- the taps in halves
module _ {h : List ℤ} (F : List ℤ) (e : h ≡ halves_of F) where
  pub halves_length : length h ≡ length F
  unfolding halves_of
  halves_length = ap length e ∙ length-append (even_taps F) (odd_taps F) ∙ omega (arith, length_even F, length_odd F)

  pub even_half : take ((length h + 1) / 2 - 0) h ≡ even_taps F
  unfolding halves_of
  even_half = ap (take ((length h + 1) / 2 - 0)) e ∙ take_at (even_taps F) (odd_taps F) ((length h + 1) / 2 - 0) (omega (arith, halves_length, length_even F))

  pub odd_half : take (length h - (length h + 1) / 2) (drop ((length h + 1) / 2) h) ≡ odd_taps F
  unfolding halves_of
  odd_half =
      ap (λ l. take (length h - (length h + 1) / 2) (drop ((length h + 1) / 2) l)) e
      ∙ ap (take (length h - (length h + 1) / 2)) (drop_at (even_taps F) (odd_taps F) ((length h + 1) / 2) (omega (arith, halves_length, length_even F)))
      ∙ take_all (length h - (length h + 1) / 2) (odd_taps F) (omega (arith, halves_length, length_odd F))

-- ---- 352,800: between the values of w, and those values, in turn
HB_odd : length (odd_taps HB) ≡ 8
unfolding HB
HB_odd = length_odd HB

HB_odd_sum : total (λ j. nat_abs (tap (odd_taps HB) j)) 0 8 ≡ 7792690
unfolding total HB odd_taps tabulate
HB_odd_sum = refl

-- sums between numbers below 2^29
pub middle_fit_small : (x : List ℤ) (n : ℕ) → Small (2 ^ 29) x → Fit (middle (odd_taps HB) x) n
unfolding middle between_by
middle_fit_small x n s =
    record {
      fits = λ i m.
          let k = i + length (odd_taps HB) - 1 in
          let size = sum_size (length (odd_taps HB)) (tap (odd_taps HB)) (λ j. at0 x (k - j) +ℤ at0 x (k + 1 + j)) (2 ^ 30)
          (λ j l. omega (arith, abs_add (at0 x (k - j)) (at0 x (k + 1 + j)), s.size (k - j), s.size (k + 1 + j))) in
          omega (arith, size, ap (total (λ j. nat_abs (tap (odd_taps HB) j)) 0) HB_odd, HB_odd_sum);
    }

-- t holds w from k - 8 on
module _ (F : List ℤ) (β : ℕ → ℕ) (k : ℕ) (low : 8 ≤ k) (t : List ℤ) (held : Held (pos 0) (w F β) (k - 8) 184 t) where
  -- the places between
  halfway : {old new : List ℤ} → Filled (λ i. R (middle (odd_taps HB) (take 183 (drop 1 t)) i) 23) old new → length old ≡ 168
      → Held (pos 0) (λ i. R (between (w F β) i) 23) k 168 new
  halfway filled l =
      let around = part_held 1 184 (omega arith) (omega arith) held in
      let h = held_at k (omega (arith, HB_odd)) (middle_held (odd_taps HB) around filled (omega (arith, HB_odd)) (omega (arith, HB_odd))) in
      record { is = λ i m. h.is i (omega arith) ∙ ap (λ z. R z 23) (between_is_HB (w F β) (k + i)) }

  interleaved_y : {old new : List ℤ} (n : ℕ) → n ≡ 2 * k → Filled (λ i. R (middle (odd_taps HB) (take 183 (drop 1 t)) i) 23) old new → length old ≡ 168
      → (j : ℕ) → j < 336 → interleaved (take 168 (drop 8 t)) new j ≡ y_narrow Hz352800 F β (n + j)
  unfolding interleaved y_narrow
  interleaved_y n two filled l j m =
      let r : (n + j) % 2 ≡ j % 2 = omega arith in
      let q : (n + j) / 2 ≡ k + j / 2 = omega arith in
      let even : at0 (take 168 (drop 8 t)) (j / 2) ≡ w F β (k + j / 2) = (part_held 8 176 (omega arith) (omega arith) held).is (j / 2) (omega arith) ∙ ap (w F β) (omega arith) in
      let odd = (halfway filled l).is (j / 2) (omega arith) in
      rw (r, q, even, odd)

-- w and the values between, in turn, are y
pub interleaved_gives : (F : List ℤ) (β : ℕ → ℕ) (n : ℕ) {len : ℕ} {t old new ys : List ℤ} → 16 ≤ n → n % 2 ≡ 0 → Held (pos 0) (w F β) (n / 2 - 8) 184 t
    → Filled (λ i. R (middle (odd_taps HB) (take 183 (drop 1 t)) i) 23) old new → length old ≡ 168 → Held (pos 0) (interleaved (take 168 (drop 8 t)) new) 0 len ys → len ≡ 336
    → Held (pos 0) (y_narrow Hz352800 F β) n 336 ys
interleaved_gives F β n {t = t} {new = new} l even held filled long turns e =
    record { is = λ j m. turns.is j (omega arith) ∙ ap (interleaved (take 168 (drop 8 t)) new) (omega arith) ∙ interleaved_y F β (n / 2) (omega arith) t held n (omega arith) filled long j m }

-- ---- the filters of Wide, as they are lent

pub halved_F80 : {h : List ℤ} → h ≡ halves_of F80 → HalvedFilter h
halved_F80 e =
    let long = halves_length F80 e in
    record { some = omega (arith, long, F80_last); few = omega (arith, long, F80_last); F = F80; halved = e; keeps = filter_F80; small = omega (arith, absolute_F80) }

low_pass_F40 : LowPass F40
low_pass_F40 = record { some = omega (arith, F40_last); few = omega (arith, F40_last); keeps = filter_F40; small = omega (arith, F40_sum) }

pub lent_F40 : {h : List ℤ} → h ≡ F40 → LowPass h
lent_F40 e = rw e low_pass_F40
