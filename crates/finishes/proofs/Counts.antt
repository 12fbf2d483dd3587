-- Sums that one turn changes, and how many turns frames take.
use Rattle.std.proofs.Common.{◌≡◌, refl, ap, List, [], ◌∷◌, Bool, true, false, cond, ◌⊎◌, inl, inr, ⊎_elim, ℕ, zero, suc, ◌+◌, ◌-◌, ◌/◌, ◌<◌, ◌≤◌, zero-add}
use Rattle.std.proofs.Common.{arith, eq-eqb, ne_eqb, eqb}
use native.Mathlib.Nat.{div-eq_of_lt, div-eq-sub-div}
use Rattle.numbers.specs.Lists.{total}
use Rattle.numbers.proofs.Lists.{total_same, total_none, below_or}
use Rattle.finishes.specs.Turns.{after_turn, finish}

-- ---- sums

-- f and g differ at x alone
pub moved : (f g : ℕ → ℕ) (x n : ℕ) → ((b : ℕ) → (b ≡ x → ⊥) → f b ≡ g b) → x < n → total f 0 n + g x ≡ total g 0 n + f x
unfolding total
moved f g x zero e l = absurd (omega arith)
moved f g x (suc n) e l = rw zero-add (⊎_elim (λ m. omega (arith, moved f g x n e m, e n (λ i. omega arith))) (λ m.
    let i : n ≡ x = omega arith in
    omega (arith, total_same f g 0 0 n (λ k h. e (0 + k) (λ j. omega arith)), ap f i, ap g i)) (below_or x n))

pub part_le : (f : ℕ → ℕ) (a n : ℕ) → a < n → f a ≤ total f 0 n
unfolding total
part_le f a zero l = absurd (omega arith)
part_le f a (suc n) l = rw zero-add (⊎_elim (λ m. omega (arith, part_le f a n m)) (λ m.
    let i : n ≡ a = omega arith in
    omega (arith, ap f i)) (below_or a n))

-- ---- a turn

module _ (t x : ℕ) (left : ℕ → ℕ) where
  pub turn_same : after_turn t x left x ≡ left x - t
  unfolding after_turn
  turn_same = rw (eq-eqb x x refl)

  pub turn_other : (a : ℕ) → (a ≡ x → ⊥) → after_turn t x left a ≡ left a
  unfolding after_turn
  turn_other a n = rw (ne_eqb a x n)

  pub turn_less : (a : ℕ) → after_turn t x left a ≤ left a
  unfolding after_turn
  turn_less a = go (eqb a x)
    where
      go : (b : Bool) → cond b (left a - t) (left a) ≤ left a
      go true = omega arith
      go false = omega arith

-- ---- the turns that m frames take

abbrev pub turns : ℕ → ℕ → ℕ
turns t zero = 0
turns t (suc m) = suc (m / t)

pub turns_of : (t m : ℕ) → 1 ≤ m → (m - 1) / t + 1 ≡ turns t m
turns_of t zero l = absurd (omega arith)
turns_of t (suc m) l =
    let e : suc m - 1 ≡ m = omega arith in
    rw e (omega arith)

pub turns_step : (t m : ℕ) → 0 < t → 0 < m → turns t m ≡ suc (turns t (m - t))
turns_step t zero p l = absurd (omega arith)
turns_step t (suc m) p l = go (below_or m t)
  where
    go : (m < t) ⊎ (t ≤ m) → turns t (suc m) ≡ suc (turns t (suc m - t))
    go (inl h) =
        let e : suc m - t ≡ 0 = omega arith in
        rw e (omega (arith, div-eq_of_lt h))
    go (inr h) =
        let e : suc m - t ≡ suc (m - t) = omega arith in
        rw e (omega (arith, div-eq-sub-div p h))

-- ---- the turns that the albums in a set take

abbrev pub needed : ℕ → (ℕ → Bool) → (ℕ → ℕ) → ℕ → ℕ
needed t p left b = cond (p b) (turns t (left b)) 0

pub none_needed : (t : ℕ) (p : ℕ → Bool) (left : ℕ → ℕ) (n : ℕ) → ((b : ℕ) → b < n → p b ≡ true → left b ≡ 0) → total (needed t p left) 0 n ≡ 0
none_needed t p left n h = total_none (needed t p left) 0 n (λ k l. rw zero-add (go (p k) (h k l)))
  where
    go : {k : ℕ} (b : Bool) → (b ≡ true → left k ≡ 0) → cond b (turns t (left k)) 0 ≡ 0
    go true e = rw (e refl)
    go false e = refl

-- a turn for x takes one of them, if x is in the set and unfinished, and no more than one
module _ (t x n : ℕ) (p : ℕ → Bool) (left : ℕ → ℕ) (some : 0 < t) where
  abbrev left' : ℕ → ℕ
  left' = after_turn t x left

  same : (b : ℕ) → (b ≡ x → ⊥) → needed t p left b ≡ needed t p left' b
  same b e = rw (turn_other t x left b e)

  pub one_needed : x < n → p x ≡ true → 0 < left x → total (needed t p left) 0 n ≡ suc (total (needed t p left') 0 n)
  one_needed l e u =
      let f : needed t p left x ≡ turns t (left x) = rw e in
      let g : needed t p left' x ≡ turns t (left x - t) = rw (e, turn_same t x left) in
      omega (arith, moved (needed t p left) (needed t p left') x n same l, turns_step t (left x) some u)

  one_at_most : x < n → (b : Bool) → p x ≡ b → total (needed t p left) 0 n ≤ suc (total (needed t p left') 0 n)
  one_at_most l true e = ⊎_elim (λ u. omega (arith, one_needed l e u)) (λ u.
      let z : left x ≡ 0 = omega arith in
      let f : needed t p left x ≡ 0 = rw (e, z) in
      omega (arith, moved (needed t p left) (needed t p left') x n same l)) (below_or 0 (left x))
  one_at_most l false e =
      let f : needed t p left x ≡ 0 = rw e in
      omega (arith, moved (needed t p left) (needed t p left') x n same l)

  pub no_more : total (needed t p left) 0 n ≤ suc (total (needed t p left') 0 n)
  no_more = ⊎_elim (λ l. one_at_most l (p x) refl) (λ l. omega (arith, total_same (needed t p left) (needed t p left') 0 0 n (λ k h. same (0 + k) (λ j. omega arith)))) (below_or x n)

-- ---- finishing

pub finish_done : (t : ℕ) (order : List ℕ) (left : ℕ → ℕ) (a : ℕ) → left a ≡ 0 → finish t order left a ≡ 0
unfolding finish
finish_done t [] left a e = refl
finish_done t (x ∷ order) left a e = rw e

pub finish_later : (t x : ℕ) (order : List ℕ) (left : ℕ → ℕ) (a : ℕ) → 0 < left a → finish t (x ∷ order) left a ≡ suc (finish t order (after_turn t x left) a)
unfolding finish
finish_later t x order left a l = rw (ne_eqb (left a) 0 (λ e. omega arith))
