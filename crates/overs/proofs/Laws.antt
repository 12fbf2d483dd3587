-- Stretches counted end to end, the places of a channel's items, and a stretch with no sample at full scale.
use Rattle.std.proofs.Common.{◌≡◌, refl, ◌∙◌, List, [], ◌∷◌, ◌++◌, Bool, true, false, cond, ⊎_elim, ℕ, zero, suc, ◌+◌, ◌-◌, ◌*◌, ◌/◌, ◌≤◌, ◌<◌}
use Rattle.std.proofs.Common.{le-div_iff_mul-le, arith, lt-ltb, ltb-true, ne_eqb, eqb, ltb, ℤ, pos, negsuc, length, get_or, Option, Some, None}
use lib.Signed.{lt_z}
use Rattle.numbers.specs.Lists.{tabulate}
use Rattle.numbers.proofs.Extremes.{Under}
use Rattle.numbers.proofs.Lists.{below_or, part_end}
use Rattle.overs.specs.declared.End.{End}
use Rattle.overs.specs.Overs.{Progress, end_of, stands_at, none, length_at, third_after, step_at, step, overs_from, after, channel_size, channel}

-- ---- stretches end to end

pub overs_append : (p : Progress) (xs ys : List ℤ) → overs_from p (xs ++ ys) ≡ overs_from p xs + overs_from (after p xs) ys
unfolding overs_from after
overs_append p [] ys = omega arith
overs_append p (x ∷ xs) ys = omega (arith, overs_append (step p x).next xs ys)

pub after_append : (p : Progress) (xs ys : List ℤ) → after p (xs ++ ys) ≡ after (after p xs) ys
unfolding after
after_append p [] ys = refl
after_append p (x ∷ xs) ys = after_append (step p x).next xs ys

-- one sample more
pub overs_more : (p : Progress) (xs : List ℤ) (z : ℤ) → overs_from p (xs ++ (z ∷ [])) ≡ overs_from p xs + (step (after p xs) z).count
unfolding overs_from
overs_more p xs z = overs_append p xs (z ∷ []) ∙ omega arith

pub after_more : (p : Progress) (xs : List ℤ) (z : ℤ) → after p (xs ++ (z ∷ [])) ≡ (step (after p xs) z).next
unfolding after
after_more p xs z = after_append p xs (z ∷ [])

one_at_most : (b : Bool) → cond b 1 0 ≤ 1
one_at_most true = omega arith
one_at_most false = omega arith

pub step_small : (p : Progress) (z : ℤ) → (step p z).count ≤ 1
unfolding step step_at third_after
step_small p z = go (end_of z)
  where
    go : (e : Option End) → (step_at p e).count ≤ 1
    go None = omega arith
    go (Some e) = one_at_most (eqb (length_at p e) 2)

-- no more overs than samples
pub overs_few : (p : Progress) (zs : List ℤ) → overs_from p zs ≤ length zs
unfolding overs_from
overs_few p [] = omega arith
overs_few p (z ∷ zs) = omega (arith, step_small p z, overs_few (step p z).next zs)

-- ---- a channel's places

pub place_inside : (size n c k : ℕ) → k < channel_size size n c → (c < n) × (k * n + c < size)
unfolding channel_size
place_inside size n c k h = go (ltb c n) refl (ltb c size) refl h
  where
    go : (a : Bool) → ltb c n ≡ a → (b : Bool) → ltb c size ≡ b → k < cond a (cond b ((size - 1 - c) / n + 1) 0) 0 → (c < n) × (k * n + c < size)
    go false e b f h = absurd (omega arith)
    go true e false f h = absurd (omega arith)
    go true e true f h =
        let i : c < n = ltb-true c n e in
        let j : c < size = ltb-true c size f in
        let m : k * n ≤ size - 1 - c = (le-div_iff_mul-le {k = n} {x = k} {y = size - 1 - c} (omega arith)).0 (omega arith) in
        (i, omega arith)

pub place_counted : (size n c k : ℕ) → c < n → k * n + c < size → k < channel_size size n c
unfolding channel_size
place_counted size n c k i h =
    let m : k ≤ (size - 1 - c) / n = (le-div_iff_mul-le {k = n} {x = k} {y = size - 1 - c} (omega arith)).1 (omega arith) in
    rw (lt-ltb c n i, lt-ltb c size (omega arith)) (omega arith)

-- item k of the channel
abbrev pub at : List ℤ → ℕ → ℕ → ℕ → ℤ
at items n c k = get_or items (k * n + c) (pos 0)

-- whole rows of items
module _ (n c : ℕ) (inside : c < n) where
  size_is : (m : ℕ) → channel_size (m * n) n c ≡ m
  size_is m = ⊎_elim (λ less. absurd (omega (arith, place_counted (m * n) n c (channel_size (m * n) n c) inside (omega (arith, part_end (channel_size (m * n) n c) m n less)))))
      (λ more. ⊎_elim (λ less. absurd (omega (arith, (place_inside (m * n) n c m less).1))) (λ same. omega arith) (below_or m (channel_size (m * n) n c)))
      (below_or (channel_size (m * n) n c) m)

  pub channel_is : (items : List ℤ) (m : ℕ) → length items ≡ m * n → channel items n c ≡ tabulate (at items n c) 0 m
  unfolding channel
  channel_is items m e = rw (e, size_is m)

-- ---- a stretch with no sample at full scale

-- a sample between two numbers that lie between the ends
pub between : (low z high : ℤ) → lt_z (negsuc 8388607) low ≡ true → lt_z high (pos 8388607) ≡ true → Under low z → Under z high → end_of z ≡ None
unfolding end_of stands_at
between low (pos a) (pos h) l e p q = rw (ne_eqb a 8388607 (λ i. omega (arith, ltb-true h 8388607 e)))
between low (pos a) (negsuc h) l e p q = absurd (omega arith)
between (negsuc b) (negsuc a) high l e p q = rw (ne_eqb a 8388607 (λ i. omega (arith, ltb-true b 8388607 l)))
between (pos b) (negsuc a) high l e p q = absurd (omega arith)

pub quiet_step : (p : Progress) (z : ℤ) → end_of z ≡ None → step p z ≡ record { count = 0; next = none }
unfolding step step_at
quiet_step p z h = rw h

-- it has no overs, and nothing is in progress after it
module _ (p : Progress) (f : ℕ → ℤ) (a : ℕ) where
  pub quiet : (n : ℕ) → ((k : ℕ) → k < n → end_of (f (a + k)) ≡ None) → overs_from p (tabulate f a n) ≡ 0
  unfolding overs_from tabulate
  quiet zero h = refl
  quiet (suc n) h =
      overs_more p (tabulate f a n) (f (a + n)) ∙ rw (quiet n (λ k l. h k (omega arith)), quiet_step (after p (tabulate f a n)) (f (a + n)) (h n (omega arith)))

  pub quiet_after : (n : ℕ) → 0 < n → ((k : ℕ) → k < n → end_of (f (a + k)) ≡ None) → after p (tabulate f a n) ≡ none
  unfolding tabulate
  quiet_after zero some h = absurd (omega arith)
  quiet_after (suc n) some h =
      after_more p (tabulate f a n) (f (a + n)) ∙ rw (quiet_step (after p (tabulate f a n)) (f (a + n)) (h n (omega arith)))
