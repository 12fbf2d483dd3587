-- Laws of the least and the greatest: equal stretches, stretches joined.
use Rattle.std.proofs.Common.{◌≡◌, refl, sym, ap, ◌∙◌, ◌⊎◌, inl, inr, ⊎_elim, Bool, true, false, cond, ℕ, zero, suc, ◌+◌, ◌<◌, ◌≤◌, add-zero, zero-add, arith}
use Rattle.std.proofs.Common.{ltb-true, ltb-false, eqb, ℤ, pos, negsuc}
use lib.Dec.{eqb-suc-zero}
use lib.Signed.{lt_z}
use Rattle.numbers.specs.Extremes.{lesser, greater, picked, extreme}
use Rattle.numbers.specs.inner.Extremes.{extreme0, pick_unmarked}
use Rattle.numbers.proofs.Integers.{pp, nn, zext}

-- f from a on and g from b on agree at n places
pub picked_same : (pick : ℤ → ℤ → ℤ) (start : ℤ) (f g : ℕ → ℤ) (a b n : ℕ) → ((k : ℕ) → k < n → f (a + k) ≡ g (b + k)) → picked pick start f a n ≡ picked pick start g b n
unfolding picked
picked_same pick start f g a b zero h = refl
picked_same pick start f g a b (suc n) h = rw (picked_same pick start f g a b n (λ k l. h k (omega arith)), h n (omega arith)) refl

pub extreme_same : (pick : ℤ → ℤ → ℤ) (f g : ℕ → ℤ) (a b n : ℕ) → 0 < n → ((k : ℕ) → k < n → f (a + k) ≡ g (b + k)) → extreme pick f a n ≡ extreme pick g b n
extreme_same pick f g a b n some same =
    let e : f a ≡ g b = rw (add-zero a, add-zero b) at (same 0 some) in
    rw e (picked_same pick (g b) f g a b n same)

-- ---- the order of ℤ, by parts

abbrev pub Under : ℤ → ℤ → Type 0
Under x y = pp x + nn y ≤ pp y + nn x

below : (x y : ℤ) → lt_z x y ≡ true → pp x + nn y < pp y + nn x
below (pos a) (pos b) e = omega (arith, ltb-true a b e)
below (pos a) (negsuc b) e = let z : ◌≡◌ {A = ℕ} 0 1 = cc in absurd (omega arith)
below (negsuc a) (pos b) e = omega arith
below (negsuc a) (negsuc b) e = omega (arith, ltb-true b a e)

not_below : (x y : ℤ) → lt_z x y ≡ false → Under y x
not_below (pos a) (pos b) e = omega (arith, ltb-false a b e)
not_below (pos a) (negsuc b) e = omega arith
not_below (negsuc a) (pos b) e = let z : ◌≡◌ {A = ℕ} 0 1 = cc in absurd (omega arith)
not_below (negsuc a) (negsuc b) e = omega (arith, ltb-false b a e)

-- ---- a pick that is the best of two in an order

pub record Best (R : ℤ → ℤ → Type 0) (pick : ℤ → ℤ → ℤ) : Type 0 where
  pub anti : (x y : ℤ) → R x y → R y x → x ≡ y
  pub same : (x : ℤ) → R x x
  pub next : (x y z : ℤ) → R x y → R y z → R x z
  pub left : (x y : ℤ) → R (pick x y) x
  pub right : (x y : ℤ) → R (pick x y) y
  pub best : (w x y : ℤ) → R w x → R w y → R w (pick x y)
  pub which : (x y : ℤ) → (pick x y ≡ x) ⊎ (pick x y ≡ y)

one_of : (b : Bool) (x y : ℤ) → (cond b y x ≡ x) ⊎ (cond b y x ≡ y)
one_of true x y = inr refl
one_of false x y = inl refl

by_cases : (P : ℤ → Type 0) (b : Bool) {x y : ℤ} → (b ≡ true → P x) → (b ≡ false → P y) → P (cond b x y)
by_cases P true h k = h refl
by_cases P false h k = k refl

pub least_best : Best (λ x y. Under x y) lesser
unfolding lesser
least_best = record {
  anti = λ x y p q. zext x y (omega arith);
  same = λ x. omega arith;
  next = λ x y z p q. omega arith;
  left = λ x y. by_cases (λ r. Under r x) (lt_z y x) (λ e. omega (arith, below y x e)) (λ e. omega arith);
  right = λ x y. by_cases (λ r. Under r y) (lt_z y x) (λ e. omega arith) (λ e. not_below y x e);
  best = λ w x y p q. by_cases (λ r. Under w r) (lt_z y x) (λ e. q) (λ e. p);
  which = λ x y. one_of (lt_z y x) x y;
}

pub greatest_best : Best (λ x y. Under y x) greater
unfolding greater
greatest_best = record {
  anti = λ x y p q. zext x y (omega arith);
  same = λ x. omega arith;
  next = λ x y z p q. omega arith;
  left = λ x y. by_cases (λ r. Under x r) (lt_z x y) (λ e. omega (arith, below x y e)) (λ e. omega arith);
  right = λ x y. by_cases (λ r. Under y r) (lt_z x y) (λ e. omega arith) (λ e. not_below x y e);
  best = λ w x y p q. by_cases (λ r. Under r w) (lt_z x y) (λ e. q) (λ e. p);
  which = λ x y. one_of (lt_z x y) x y;
}

module _ {R : ℤ → ℤ → Type 0} {pick : ℤ → ℤ → ℤ} (b : Best R pick) where
  pub assoc : (x y z : ℤ) → pick x (pick y z) ≡ pick (pick x y) z
  assoc x y z =
      b.anti _ _
      (b.best _ _ _ (b.best _ _ _ (b.left x (pick y z)) (b.next _ _ _ (b.right x (pick y z)) (b.left y z))) (b.next _ _ _ (b.right x (pick y z)) (b.right y z)))
      (b.best _ _ _ (b.next _ _ _ (b.left (pick x y) z) (b.left x y)) (b.best _ _ _ (b.next _ _ _ (b.left (pick x y) z) (b.right x y)) (b.right (pick x y) z)))

  -- a pick that the other does not better
  kept : (x y : ℤ) → R x y → pick x y ≡ x
  kept x y h = b.anti _ _ (b.left x y) (b.best _ _ _ (b.same x) h)

  -- the start is among those picked from
  from_start : (s : ℤ) (f : ℕ → ℤ) (a n : ℕ) → R (picked pick s f a n) s
  unfolding picked
  from_start s f a zero = b.same s
  from_start s f a (suc n) = b.next _ _ _ (b.left _ _) (from_start s f a n)

  pub picked_join : (s : ℤ) (f : ℕ → ℤ) (a m n : ℕ) → pick (picked pick s f a m) (picked pick s f (a + m) n) ≡ picked pick s f a (m + n)
  unfolding picked
  picked_join s f a m zero = rw (add-zero m) (kept _ _ (from_start s f a m))
  picked_join s f a m (suc n) =
      let e : m + suc n ≡ suc (m + n) = omega arith in
      let i : a + m + n ≡ a + (m + n) = omega arith in
      rw e (assoc _ _ _ ∙ rw (picked_join s f a m n, i) refl)

  -- one the other betters
  pub bettered : (x y : ℤ) → R y x → pick x y ≡ y
  bettered x y h = b.anti _ _ (b.right x y) (b.best _ _ _ h (b.same y))

  -- n numbers and a start before them
  picked_start : (s : ℤ) (f : ℕ → ℤ) (a n : ℕ) → picked pick s f a (suc n) ≡ pick s (extreme pick f a (suc n))
  unfolding picked
  picked_start s f a zero = rw (add-zero a, kept (f a) (f a) (b.same (f a))) refl
  picked_start s f a (suc n) = rw (picked_start s f a n) (sym (assoc _ _ _))

  -- a start that the first number betters does not count
  pub from_first : (s : ℤ) (f : ℕ → ℤ) (a n : ℕ) → R (f a) s → picked pick s f a (suc n) ≡ extreme pick f a (suc n)
  from_first s f a n h = picked_start s f a n ∙ bettered _ _ (b.next _ _ _ (from_start (f a) f a (suc n)) h)

  picked_on : (s : ℤ) (f : ℕ → ℤ) (a m n : ℕ) → picked pick s f a (m + n) ≡ picked pick (picked pick s f a m) f (a + m) n
  unfolding picked
  picked_on s f a m zero = rw (add-zero m) refl
  picked_on s f a m (suc n) =
      let e : m + suc n ≡ suc (m + n) = omega arith in
      let i : a + m + n ≡ a + (m + n) = omega arith in
      rw (e, i, picked_on s f a m n) refl

  -- two stretches joined, either of which may have no numbers
  pub extreme0_join : (f : ℕ → ℤ) (a m n : ℕ)
      → pick_unmarked pick (eqb m 0) (extreme0 pick f a m) (eqb n 0) (extreme0 pick f (a + m) n) ≡ extreme0 pick f a (m + n)
  unfolding extreme0 pick_unmarked
  extreme0_join f a zero zero = refl
  extreme0_join f a zero (suc n) = rw (add-zero a, zero-add (suc n), eqb-suc-zero n) refl
  extreme0_join f a (suc m) zero = rw (add-zero (suc m), eqb-suc-zero m) refl
  extreme0_join f a (suc m) (suc n) =
      let e : suc m + suc n ≡ suc (m + suc n) = omega arith in
      rw (e, eqb-suc-zero m, eqb-suc-zero n) (sym (picked_start _ f (a + suc m) n) ∙ sym (picked_on (f a) f a (suc m) (suc n)) ∙ rw e refl)

  -- a function that keeps the order, on numbers that have a property
  module _ (P : ℤ → Type 0) (g : ℤ → ℤ) (grows : (x y : ℤ) → P x → P y → R x y → R (g x) (g y)) where
    pick_map : (x y : ℤ) → P x → P y → pick (g x) (g y) ≡ g (pick x y)
    pick_map x y p q =
        ⊎_elim
        (λ e. kept (g x) (g y) (grows x y p q (rw e at (b.right x y))) ∙ sym (ap g e))
        (λ e. bettered (g x) (g y) (grows y x q p (rw e at (b.left x y))) ∙ sym (ap g e)) (b.which x y)

    pub picked_in : (s : ℤ) (f : ℕ → ℤ) (a n : ℕ) → P s → ((k : ℕ) → k < n → P (f (a + k))) → P (picked pick s f a n)
    unfolding picked
    picked_in s f a zero p h = p
    picked_in s f a (suc n) p h =
        ⊎_elim (λ e. rw e (picked_in s f a n p (λ k l. h k (omega arith)))) (λ e. rw e (h n (omega arith))) (b.which (picked pick s f a n) (f (a + n)))

    pub picked_map : (s : ℤ) (f : ℕ → ℤ) (a n : ℕ) → P s → ((k : ℕ) → k < n → P (f (a + k))) → picked pick (g s) (λ k. g (f k)) a n ≡ g (picked pick s f a n)
    unfolding picked
    picked_map s f a zero p h = refl
    picked_map s f a (suc n) p h =
        rw (picked_map s f a n p (λ k l. h k (omega arith))) (pick_map _ _ (picked_in s f a n p (λ k l. h k (omega arith))) (h n (omega arith)))
