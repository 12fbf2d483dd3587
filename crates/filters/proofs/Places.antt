-- Whole lists filled, the copy, and every second value.
use Rattle.std.proofs.Common.{◌≡◌, sym, ◌∙◌, ap, List, ⊎_elim, ℕ, ◌+◌, ◌-◌, ◌*◌, ◌/◌, ◌<◌, ◌≤◌, ◌^◌, eq-or-lt_of_le, arith, ℤ, pos, nat_abs, ◌+ℤ◌, length}
use Rattle.std.proofs.Common.{get_or, set, replicate, get_or-set_same, get_or-set_other}
use lib.ListN.{length-replicate, get_or-replicate, get_or-eq_default}
use Rattle.numbers.specs.Sums.{at0}
use Rattle.numbers.proofs.Integers.{abs_add}
use Rattle.numbers.proofs.Lists.{below_or, written_all, length_tabulate, get_d_tabulate}
use Rattle.lanes.specs.inner.Lanes.{Small, Filled, copied, Low}
use Rattle.filters.specs.inner.Filters.{seconds}
use Rattle.filters.specs.inner.Biases.{biased, Copied}

-- ---- whole lists

-- every place has gained g
pub filled_then : {f m : ℕ → ℤ} (g : ℕ → ℤ) {a b c : List ℤ} → Filled f a b → Filled (λ k. at0 b k +ℤ g k) b c → ((k : ℕ) → k < length a → f k +ℤ g k ≡ m k) → Filled m a c
filled_then g u w e = written_all (w.same ∙ u.same) (λ k l. w.done k (omega (arith, u.same)) ∙ ap (λ (z : ℤ). z +ℤ g k) (u.done k l) ∙ e k l)

-- every place has been written anew
pub filled_again : {f g : ℕ → ℤ} {a b c : List ℤ} → Filled f a b → Filled g b c → Filled g a c
filled_again u w = written_all (w.same ∙ u.same) (λ k l. w.done k (omega (arith, u.same)))

pub filled_small : {f : ℕ → ℤ} {old new : List ℤ} (B : ℕ) → Filled f old new → ((k : ℕ) → nat_abs (f k) ≤ B) → Small B new
filled_small {old} {new} B u e =
    record {
      size = λ k. ⊎_elim (λ l. rw (u.done k l) (e k)) (λ l. rw (get_or-eq_default {A = ℤ} new (pos 0) {n = k} (omega (arith, u.same))) (omega arith)) (below_or k (length old));
    }

pub gained_small : (g : ℕ → ℤ) {old new : List ℤ} {A G : ℕ} (B : ℕ) → Filled (λ k. at0 old k +ℤ g k) old new → Small A old → ((k : ℕ) → nat_abs (g k) ≤ G) → A + G ≤ B → Small B new
gained_small g {old} B u a e l = filled_small B u (λ k. omega (arith, abs_add (at0 old k) (g k), a.size k, e k))

-- ---- the copy
pub low_zeros : (n : ℕ) → Low (replicate n 0)
low_zeros n = record {
  size = λ k. ⊎_elim (λ l. rw (get_or-replicate {A = ℕ} n k 0 0 l) (omega arith))
      (λ l. rw (get_or-eq_default {A = ℕ} (replicate n 0) 0 {n = k} (past k l)) (omega arith)) (below_or k n);
}
  where
    past : (k : ℕ) → n ≤ k → length {A = ℕ} (replicate n 0) ≤ k
    past k l = rw (length-replicate {A = ℕ} n 0) l

-- place i more
pub copied_more : {i j : ℕ} {x : List ℤ} {v : List ℕ} {r : ℕ} → Copied i x v → i < length v → pos r ≡ biased x i → r ≤ 2 ^ 30 → j ≡ i + 1 → Copied j x (set v i r)
unfolding copied
copied_more {i} {j} {x} {v} {r} a m e b next =
    record {
      is = λ k n. ⊎_elim (λ q. ap pos (here k q) ∙ e ∙ ap (biased x) (sym q)) (λ q. ap pos (before k q) ∙ a.is k q) (eq-or-lt_of_le (up_to k n));
      low = record { size = λ k. ⊎_elim (λ l. rw (before k l) (a.low.size k)) (λ l. ⊎_elim (λ q. rw (here k (sym q)) b) (λ n. rw (after k n) (a.low.size k)) (eq-or-lt_of_le l)) (below_or k i) };
    }
  where
    up_to : (k : ℕ) → k < j → k ≤ i
    up_to k n = omega arith

    here : (k : ℕ) → k ≡ i → get_or (set v i r) k 0 ≡ r
    here k q = ap (λ (n : ℕ). get_or (set v i r) n 0) q ∙ get_or-set_same v i r 0 m

    before : (k : ℕ) → k < i → get_or (set v i r) k 0 ≡ get_or v k 0
    before k n = get_or-set_other v i k r 0 (λ q. omega arith)

    after : (k : ℕ) → i < k → get_or (set v i r) k 0 ≡ get_or v k 0
    after k n = get_or-set_other v i k r 0 (λ q. omega arith)

-- ---- every second value
pub length_seconds : (f : ℕ) (x : List ℤ) → length (seconds f x) ≡ (length x + 1 - f) / 2
unfolding seconds
length_seconds f x = length_tabulate (λ k. at0 x (2 * k + f)) 0 ((length x + 1 - f) / 2)

pub second_at : (f : ℕ) (x : List ℤ) (k : ℕ) → k < (length x + 1 - f) / 2 → at0 (seconds f x) k ≡ at0 x (2 * k + f)
unfolding seconds
second_at f x k m = get_d_tabulate (λ j. at0 x (2 * j + f)) 0 ((length x + 1 - f) / 2) k (pos 0) m ∙ ap (λ (j : ℕ). at0 x (2 * j + f)) (omega arith)

pub second_biased : (f : ℕ) (x : List ℤ) (k : ℕ) → k < (length x + 1 - f) / 2 → biased x (2 * k + f) ≡ biased (seconds f x) k
unfolding biased
second_biased f x k m = ap (λ (z : ℤ). z +ℤ pos (2 ^ 29)) (sym (second_at f x k m))
