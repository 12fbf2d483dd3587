-- Arrays of small numbers: parts, filled and moved; what a filter asks of them; and new values put after a history.
use Rattle.std.proofs.Common.{◌≡◌, ◌∙◌, ap, ⊎_elim, List, ◌++◌, ℕ, ◌+◌, ◌-◌, ◌^◌, ◌≤◌, ◌<◌, arith, mul-le-mul_right, ℤ, pos, length, take, drop, replicate}
use Rattle.std.proofs.Common.{length-take, get_or-take, get_or-drop, get_or-append-add}
use lib.ListN.{length-replicate, get_or-append, get_or-replicate}
use borrow.Rule.Slice.PartMut.{put_mid}
use Rattle.numbers.specs.Sums.{at0}
use Rattle.numbers.specs.inner.Lists.{Held}
use Rattle.numbers.proofs.Lists.{below_or, held_some}
use Rattle.reference.specs.Rounding.{R}
use Rattle.reference.specs.Stages.{M, fir}
use Rattle.reference.proofs.Rounding.{R_size}
use Rattle.reference.specs.inner.Sizes.{absolute_sum}
use Rattle.reference.proofs.Sizes.{fir_size}
use Rattle.lanes.specs.inner.Lanes.{Small, Filled}
use Rattle.filters.specs.inner.Filters.{same_rate, Fit}
use Rattle.filters.proofs.Signals.{past}
use Rattle.routes.specs.inner.Routes.{LowPass}
use Rattle.routes.proofs.Arrays.{part_length, put_held}

module _ {B : ℕ} where
  pub small_front : (n : ℕ) {l : List ℤ} → Small B l → Small B (take n l)
  small_front n {l} s =
      record { size = λ j. ⊎_elim (λ (m : j < n). rw (get_or-take n l j (pos 0) m) (s.size j)) (λ (m : n ≤ j). rw (past (take n l) j (omega (arith, length-take n l))) (omega arith)) (below_or j n) }

  small_drop : (n : ℕ) {l : List ℤ} → Small B l → Small B (drop n l)
  small_drop n {l} s = record { size = λ j. rw (get_or-drop n l j (pos 0)) (s.size (n + j)) }

  small_append : {a b : List ℤ} → Small B a → Small B b → Small B (a ++ b)
  small_append {a} {b} s r =
      record {
        size = λ j.
            ⊎_elim (λ (m : j < length a). rw (get_or-append a b (pos 0) j m) (s.size j))
            (λ (m : length a ≤ j).
            let i : j ≡ length a + (j - length a) = omega arith in
            let e : at0 (a ++ b) j ≡ at0 b (j - length a) = ap (λ (z : ℕ). at0 (a ++ b) z) i ∙ get_or-append-add a b (j - length a) (pos 0) in
            rw e (r.size (j - length a)))
            (below_or j (length a));
      }

  -- a part
  pub small_part : (m k : ℕ) {l : List ℤ} → Small B l → Small B (take k (drop m l))
  small_part m k s = small_front k (small_drop m s)

  -- a part filled
  pub small_put : (m k : ℕ) {x new : List ℤ} → Small B x → Small B new → Small B (put_mid m k x new)
  small_put m k s r = small_append (small_front m s) (small_append r (small_drop k (small_drop m s)))

pub zeros_small : (n : ℕ) {B : ℕ} → Small B (replicate n (pos 0))
zeros_small n {B} =
    record {
      size = λ i. ⊎_elim (λ (l : i < n). rw (get_or-replicate n i (pos 0) (pos 0) l) (omega arith))
          (λ (l : n ≤ i). rw (past (replicate n (pos 0)) i (omega (arith, length-replicate n (pos 0)))) (omega arith)) (below_or i n);
    }

pub wider : {A B : ℕ} {l : List ℤ} → Small A l → A ≤ B → Small B l
wider s e = record { size = λ j. omega (arith, s.size j) }

pub small_fit : (h : List ℤ) {x : List ℤ} (n : ℕ) → absolute_sum h ≤ 40100000 → Small (2 ^ 27) x → Fit (same_rate h x) n
unfolding same_rate
small_fit h {x} n a s = record { fits = λ i m. omega (arith, fir_size h (at0 x) (i + M h) (2 ^ 27) s.size, mul-le-mul_right (2 ^ 27) a) }

-- over the front of an array
pub front_fit : {h x : List ℤ} (e n : ℕ) → LowPass h → Small (2 ^ 27) x → Fit (same_rate h (take e x)) n
front_fit {h} e n f s = small_fit h n (omega (arith, f.small)) (small_front e s)

-- what `fir1` gives
pub fir1_small : (h : List ℤ) {x old new : List ℤ} → absolute_sum h ≤ 40100000 → Small (2 ^ 27) x → Filled (λ i. R (same_rate h x i) 24) old new → Small (2 ^ 29) new
unfolding same_rate
fir1_small h {x} {old} {new} a s filled =
    record {
      size = λ j.
          ⊎_elim
          (λ (m : j < length old). rw (filled.done j m) (omega (arith, R_size (fir h (at0 x) (j + M h)) 24, fir_size h (at0 x) (j + M h) (2 ^ 27) s.size, mul-le-mul_right (2 ^ 27) a)))
          (λ (m : length old ≤ j). rw (past new j (omega (arith, filled.same))) (omega arith))
          (below_or j (length old));
    }

pub front_small : {h x old new : List ℤ} (e : ℕ) → LowPass h → Small (2 ^ 27) x → Filled (λ i. R (same_rate h (take e x) i) 24) old new → Small (2 ^ 29) new
front_small {h} e f s filled = fir1_small h (omega (arith, f.small)) (small_front e s) filled

-- new values after a history of m, up to place e
pub joined_held : {S : ℕ → ℤ} {a i n : ℕ} (m e : ℕ) (x new : List ℤ) → m ≤ e → e ≤ length x → length new ≡ length (take (e - m) (drop m x))
    → Held (pos 0) S a m x → Held (pos 0) S i n new → i ≡ a + m → e - m ≤ n → Held (pos 0) S a e (put_mid m (e - m) x new)
joined_held m e x new low room long old more i n = held_some e (omega arith) (put_held m (e - m) x new _ (omega arith) old more i n (omega (arith, long, part_length m e x room)))
