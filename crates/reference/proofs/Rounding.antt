-- R(v, q) is nearest v / 2^q, ties to even, and the only such number; and its size.
use Rattle.std.proofs.Common.{◌≡◌, refl, sym, ◌∙◌, ap, Bool, true, false, not, cond, ◌⊎◌, inl, inr, ⊎_elim, ℕ, zero, suc, ◌+◌, ◌*◌, ◌-◌, ◌/◌, ◌%◌, ◌<◌, ◌≤◌}
use Rattle.std.proofs.Common.{◌^◌, one-mul, div-add-mod', mod-lt, mul-le-mul_right, le_of_mul-le-mul_right, arith, T, lit<, eqb, ltb, ltb→lt, nltb→le, eqb→eq}
use Rattle.std.proofs.Common.{ℤ, pos, negsuc, neg_ℤ, nat_abs, ◌+ℤ◌, ◌-ℤ◌, ◌*ℤ◌, pow_pos}
use lib.IntN.{+ℤ_one, +ℤ_assoc, +ℤ_idr, +ℤ_invr, neg_ℤ-+ℤ}
use lib.Arith.{digits_div}
use lib.Signed.{shr_z}
use Rattle.numbers.proofs.Integers.{zext, add_parts, pp_neg, nn_neg, abs_neg, abs_add, abs_mul, abs_parts, add_mul, neg_mul}
use Rattle.reference.specs.Rounding.{rest, nearer, R, lowest_kept, one_sum, distance, NearestEven}

-- ---- the floor and the rest

pub rest_is : (d : ℕ) → 0 < d → (v : ℤ) → v -ℤ shr_z v d *ℤ pos d ≡ pos (rest v d)
unfolding rest
rest_is d some (pos n) =
    zext _ _ (omega (arith, add_parts (pos n) (neg_ℤ (pos (n / d * d))), pp_neg (pos (n / d * d)), nn_neg (pos (n / d * d)), div-add-mod' n d))
rest_is d some (negsuc n) =
    let k : ℤ = neg_ℤ (pos (suc (n / d) * d)) in
    zext _ _
    (omega (arith, add_parts (negsuc n) (neg_ℤ k), pp_neg k, nn_neg k, pp_neg (pos (suc (n / d) * d)), nn_neg (pos (suc (n / d) * d)), div-add-mod' n d, mod-lt n {m = d} some))

pub rest_below : (d : ℕ) → 0 < d → (v : ℤ) → rest v d < d
unfolding rest
rest_below d some (pos n) = mod-lt n some
rest_below d some (negsuc n) = omega arith

-- the next whole number's d-fold is d further on
next_is : (d : ℕ) → 0 < d → (v : ℤ) → nat_abs (v -ℤ (shr_z v d +ℤ pos 1) *ℤ pos d) ≡ d - rest v d
next_is d some v =
    ap nat_abs
    (ap (λ (z : ℤ). v -ℤ z) (add_mul (shr_z v d) (pos 1) (pos d) ∙ ap (λ (n : ℕ). shr_z v d *ℤ pos d +ℤ pos n) (one-mul d))
    ∙ ap (λ (z : ℤ). v +ℤ z) (neg_ℤ-+ℤ (shr_z v d *ℤ pos d) (pos d))
    ∙ sym (+ℤ_assoc v (neg_ℤ (shr_z v d *ℤ pos d)) (neg_ℤ (pos d)))
    ∙ ap (λ (z : ℤ). z -ℤ pos d) (rest_is d some v))
    ∙ short (rest v d) d (rest_below d some v)
  where
    short : (k m : ℕ) → k < m → nat_abs (pos k -ℤ pos m) ≡ m - k
    short k m l =
        ap nat_abs (zext (pos k -ℤ pos m) (neg_ℤ (pos (m - k))) (omega (arith, add_parts (pos k) (neg_ℤ (pos m)), pp_neg (pos m), nn_neg (pos m), pp_neg (pos (m - k)), nn_neg (pos (m - k)))))
        ∙ abs_neg (pos (m - k))

-- ---- the nearer of two

pick : (P : ℤ → Type 0) (b : Bool) (a c : ℤ) → (T b → P a) → (T (not b) → P c) → P (cond b a c)
pick P true a c p q = p tt
pick P false a c p q = q tt

even_next : (z : ℤ) → (nat_abs z % 2 ≡ 0 → ⊥) → nat_abs (z +ℤ pos 1) % 2 ≡ 0
even_next (pos n) h = omega arith
even_next (negsuc zero) h = refl
even_next (negsuc (suc n)) h = rw (+ℤ_one (negsuc (suc n))) (omega arith)

-- what holds of z where it is at least as near, and of z + 1 where that is; on a tie of the even one
nearer_cases : (P : ℤ → Type 0) (z : ℤ) (down up : ℕ) → (down < up → P z) → (up < down → P (z +ℤ pos 1))
    → (down ≡ up → nat_abs z % 2 ≡ 0 → P z) → (down ≡ up → nat_abs (z +ℤ pos 1) % 2 ≡ 0 → P (z +ℤ pos 1)) → P (nearer z down up)
unfolding nearer
nearer_cases P z down up p q e o =
    pick P (ltb down up) z _ (λ a. p (ltb→lt down up a))
    (λ a. pick P (ltb up down) (z +ℤ pos 1) _ (λ b. q (ltb→lt up down b))
    (λ b.
    let same : down ≡ up = omega (arith, nltb→le down up a, nltb→le up down b) in
    pick P (eqb (nat_abs z % 2) 0) z (z +ℤ pos 1) (λ c. e same (eqb→eq (nat_abs z % 2) 0 c)) (λ c. o same (even_next z (λ k. no_even c k)))))
  where
    no_even : T (not (eqb (nat_abs z % 2) 0)) → nat_abs z % 2 ≡ 0 → ⊥
    no_even c k = go (nat_abs z % 2) k c
      where
        go : (n : ℕ) → n ≡ 0 → T (not (eqb n 0)) → ⊥
        go zero k c = c
        go (suc n) k c = omega arith

-- ---- one sum for the halves

odd_before : (z : ℤ) → nat_abs (z +ℤ pos 1) % 2 ≡ 0 → nat_abs z % 2 ≡ 1
odd_before (pos n) e = omega arith
odd_before (negsuc zero) e = refl
odd_before (negsuc (suc n)) e = let f = rw (+ℤ_one (negsuc (suc n))) at e in omega arith

-- R is the floor and a carry: 0 below a half, 1 above it, and at a half the lowest kept bit
pub R_one_sum : (v : ℤ) (q : ℕ) → 1 ≤ q → R v q ≡ one_sum v q
unfolding R one_sum lowest_kept
R_one_sum v q l =
    let q-is : q ≡ suc (q - 1) = omega arith in
    summed (shr_z v (2 ^ q)) (rest v (2 ^ q)) (2 ^ q) (2 ^ (q - 1)) (ap (λ (k : ℕ). 2 ^ k) q-is ∙ double (q - 1)) (rest_below (2 ^ q) (pow_pos q) v)
  where
    double : (p : ℕ) → 2 ^ suc p ≡ 2 ^ p + 2 ^ p
    double p = omega arith

    summed : (z : ℤ) (r d half : ℕ) → d ≡ half + half → r < d → nearer z r (d - r) ≡ z +ℤ pos ((r + half - 1 + nat_abs z % 2) / d)
    summed z r d half two below =
        let bit = mod-lt (nat_abs z) {m = 2} (lit< tt) in
        nearer_cases (λ (k : ℤ). k ≡ z +ℤ pos ((r + half - 1 + nat_abs z % 2) / d)) z r (d - r)
        (λ l. sym (+ℤ_idr z) ∙ carried 0 (r + half - 1 + nat_abs z % 2) (omega arith) (omega arith))
        (λ l. carried 1 (r + half - 1 + nat_abs z % 2 - d) (omega arith) (omega arith))
        (λ e even. sym (+ℤ_idr z) ∙ carried 0 (d - 1) (omega arith) (omega arith))
        (λ e even. carried 1 0 (omega (arith, odd_before z even)) (omega arith))
      where
        carried : (m n : ℕ) → r + half - 1 + nat_abs z % 2 ≡ m * d + n → n < d → z +ℤ pos m ≡ z +ℤ pos ((r + half - 1 + nat_abs z % 2) / d)
        carried m n e l = ap (λ (k : ℕ). z +ℤ pos k) (sym (ap (λ (x : ℕ). x / d) e ∙ digits_div m l))

-- ---- nearest, ties to even, unique

differ : (v a b : ℤ) → a -ℤ b ≡ (v -ℤ b) -ℤ (v -ℤ a)
differ v a b =
    zext _ _
    (omega (arith, add_parts a (neg_ℤ b), add_parts (v -ℤ b) (neg_ℤ (v -ℤ a)), add_parts v (neg_ℤ b), add_parts v (neg_ℤ a), pp_neg a, nn_neg a, pp_neg b, nn_neg b, pp_neg (v -ℤ a), nn_neg (v -ℤ a)))

-- two numbers are equal, or at least 1 apart; where 1 apart, one of them is odd
equal_or : (a b : ℤ) → (a ≡ b) ⊎ (1 ≤ nat_abs (a -ℤ b))
equal_or a b = go (nat_abs (a -ℤ b)) refl
  where
    go : (n : ℕ) → nat_abs (a -ℤ b) ≡ n → (a ≡ b) ⊎ (1 ≤ nat_abs (a -ℤ b))
    go zero e = inl (zext a b (omega (arith, abs_parts (a -ℤ b), add_parts a (neg_ℤ b), pp_neg b, nn_neg b)))
    go (suc n) e = inr (omega arith)

both_even : (a b : ℤ) → nat_abs a % 2 ≡ 0 → nat_abs b % 2 ≡ 0 → nat_abs (a -ℤ b) ≤ 1 → a ≡ b
both_even (pos a) (pos b) ea eb h = ap pos (omega (arith, abs_parts (pos a -ℤ pos b), add_parts (pos a) (neg_ℤ (pos b)), pp_neg (pos b), nn_neg (pos b)))
both_even (pos a) (negsuc b) ea eb h = absurd (omega (arith, abs_parts (pos a -ℤ negsuc b), add_parts (pos a) (neg_ℤ (negsuc b)), pp_neg (negsuc b), nn_neg (negsuc b)))
both_even (negsuc a) (pos b) ea eb h = absurd (omega (arith, abs_parts (negsuc a -ℤ pos b), add_parts (negsuc a) (neg_ℤ (pos b)), pp_neg (pos b), nn_neg (pos b)))
both_even (negsuc a) (negsuc b) ea eb h =
    ap negsuc (omega (arith, abs_parts (negsuc a -ℤ negsuc b), add_parts (negsuc a) (neg_ℤ (negsuc b)), pp_neg (negsuc b), nn_neg (negsuc b)))

module _ (v : ℤ) (q : ℕ) where
  some : 0 < 2 ^ q
  some = pow_pos q

  -- R's distance is at most half a step; half a step only where R is even
  record Close (z : ℤ) : Type 0 where
    near : distance v q z + distance v q z ≤ 2 ^ q
    tied : distance v q z + distance v q z ≡ 2 ^ q → nat_abs z % 2 ≡ 0

  R_close : Close (R v q)
  unfolding R
  R_close =
      let low : nat_abs (v -ℤ shr_z v (2 ^ q) *ℤ pos (2 ^ q)) ≡ rest v (2 ^ q) = ap nat_abs (rest_is (2 ^ q) some v) in
      let high = next_is (2 ^ q) some v in
      let below = rest_below (2 ^ q) some v in
      nearer_cases Close (shr_z v (2 ^ q)) (rest v (2 ^ q)) (2 ^ q - rest v (2 ^ q))
      (λ l. record { near = omega arith; tied = λ e. absurd (omega arith) })
      (λ l. record { near = omega arith; tied = λ e. absurd (omega arith) })
      (λ e even. record { near = omega arith; tied = λ _. even })
      (λ e even. record { near = omega arith; tied = λ _. even })

  -- two numbers are as many steps apart as the ways to them reach
  apart_by : (a b : ℤ) → nat_abs (a -ℤ b) * 2 ^ q ≤ distance v q a + distance v q b
  apart_by a b =
      let e : (a -ℤ b) *ℤ pos (2 ^ q) ≡ (v -ℤ b *ℤ pos (2 ^ q)) -ℤ (v -ℤ a *ℤ pos (2 ^ q))
      = add_mul a (neg_ℤ b) (pos (2 ^ q)) ∙ ap (λ (z : ℤ). a *ℤ pos (2 ^ q) +ℤ z) (neg_mul b (pos (2 ^ q))) ∙ differ v (a *ℤ pos (2 ^ q)) (b *ℤ pos (2 ^ q)) in
      omega (
        arith,
        sym (abs_mul (a -ℤ b) (pos (2 ^ q))),
        ap nat_abs e,
        abs_add (v -ℤ b *ℤ pos (2 ^ q)) (neg_ℤ (v -ℤ a *ℤ pos (2 ^ q))),
        abs_neg (v -ℤ a *ℤ pos (2 ^ q)),
      )

  -- another number is a step away at least
  step_away : (a b : ℤ) → 1 ≤ nat_abs (a -ℤ b) → 2 ^ q ≤ distance v q a + distance v q b
  step_away a b l = omega (arith, apart_by a b, mul-le-mul_right (2 ^ q) l)

  pub R_nearest : NearestEven v q (R v q)
  R_nearest = record {
    nearest = λ other. ⊎_elim (λ e. rw e (omega arith)) (λ l. omega (arith, R_close.near, step_away (R v q) other l)) (equal_or (R v q) other);
    even = λ other e unlike. ⊎_elim (λ s. absurd (unlike (sym s))) (λ l. R_close.tied (omega (arith, R_close.near, step_away (R v q) other l))) (equal_or (R v q) other);
  }

  pub nearest_unique : (z : ℤ) → NearestEven v q z → z ≡ R v q
  nearest_unique z n = ⊎_elim (λ e. e) (λ l. both_even z (R v q) (n.even (R v q) (sym same) (λ e. differs (sym e) l)) (R_nearest.even z same (λ e. differs e l)) at_most) (equal_or z (R v q))
    where
      same : distance v q z ≡ distance v q (R v q)
      same = omega (arith, n.nearest (R v q), R_nearest.nearest z)

      differs : z ≡ R v q → 1 ≤ nat_abs (z -ℤ R v q) → ⊥
      differs e l = omega (arith, ap nat_abs (+ℤ_invr (R v q)), rw e at l)

      at_most : nat_abs (z -ℤ R v q) ≤ 1
      at_most = le_of_mul-le-mul_right (omega (arith, apart_by z (R v q), R_close.near, same)) some

-- ---- size

floor_size : (d : ℕ) (v : ℤ) → nat_abs (shr_z v d) * d ≤ nat_abs v + d
floor_size d (pos n) = omega (arith, div-add-mod' n d)
floor_size d (negsuc n) = omega (arith, div-add-mod' n d)

next_size : (d : ℕ) (v : ℤ) → nat_abs (shr_z v d +ℤ pos 1) * d ≤ nat_abs v + d
next_size d (pos n) = omega (arith, div-add-mod' n d)
next_size d (negsuc n) = rw (abs_up (n / d)) (omega (arith, div-add-mod' n d))
  where
    abs_up : (a : ℕ) → nat_abs (negsuc a +ℤ pos 1) ≡ a
    abs_up zero = refl
    abs_up (suc a) = ap nat_abs (+ℤ_one (negsuc (suc a)))

-- a bound on R(v, q), from one on v
pub R_size : (v : ℤ) (q : ℕ) → nat_abs (R v q) * 2 ^ q ≤ nat_abs v + 2 ^ q
unfolding R
R_size v q =
    nearer_cases (λ (z : ℤ). nat_abs z * 2 ^ q ≤ nat_abs v + 2 ^ q) (shr_z v (2 ^ q)) _ _
    (λ _. floor_size (2 ^ q) v) (λ _. next_size (2 ^ q) v) (λ _ _. floor_size (2 ^ q) v) (λ _ _. next_size (2 ^ q) v)
