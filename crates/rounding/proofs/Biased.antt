-- A sum biased by an even number b + b of steps D, rounded by the one sum and the bias taken away: R of the sum. D is
-- 2^q, half its half.
use Rattle.std.proofs.Common.{◌≡◌, sym, ◌∙◌, ap, ap₂, ⊎_elim, ℕ, suc, ◌+◌, ◌*◌, ◌-◌, ◌/◌, ◌%◌, ◌<◌, ◌≤◌, ◌^◌, div-add-mod', mod-lt, arith, pow_pos, pow-add, ℤ}
use Rattle.std.proofs.Common.{pos, negsuc, neg_ℤ, nat_abs, ◌+ℤ◌, ◌-ℤ◌, ◌*ℤ◌}
use lib.Arith.{digits_div}
use Rattle.std.proofs.Math.Nat.{mul-div_cancel}
use lib.Signed.{shr_z}
use Rattle.numbers.proofs.Integers.{zext, add_parts, pp_neg, nn_neg, add_mul, neg_mul}
use Rattle.numbers.proofs.Lists.{below_or}
use Rattle.reference.specs.Rounding.{R, rest, lowest_kept, one_sum}
use Rattle.reference.proofs.Rounding.{rest_is, R_one_sum}

-- a difference of two naturals
minus_is : (a b : ℕ) → b ≤ a → pos a -ℤ pos b ≡ pos (a - b)
minus_is a b l = zext _ _ (omega (arith, add_parts (pos a) (neg_ℤ (pos b)), pp_neg (pos b), nn_neg (pos b)))

minus_neg : (a b : ℕ) → a < b → pos a -ℤ pos b ≡ negsuc (b - suc a)
minus_neg a b l = zext _ _ (omega (arith, add_parts (pos a) (neg_ℤ (pos b)), pp_neg (pos b), nn_neg (pos b)))

minus_minus : (w m n r : ℕ) → w ≡ m + r → (pos w -ℤ pos n) -ℤ (pos m -ℤ pos n) ≡ pos r
minus_minus w m n r e =
    zext _ _
    (omega (
      arith,
      add_parts (pos w) (neg_ℤ (pos n)),
      add_parts (pos m) (neg_ℤ (pos n)),
      add_parts (pos w -ℤ pos n) (neg_ℤ (pos m -ℤ pos n)),
      pp_neg (pos n),
      nn_neg (pos n),
      pp_neg (pos m -ℤ pos n),
      nn_neg (pos m -ℤ pos n),
    ))

minus_mul : (k B D : ℕ) → (pos k -ℤ pos B) *ℤ pos D ≡ pos (k * D) -ℤ pos (B * D)
minus_mul k B D = add_mul (pos k) (neg_ℤ (pos B)) (pos D) ∙ ap (λ (z : ℤ). pos (k * D) +ℤ z) (neg_mul (pos B) (pos D))

odd_even : (k b : ℕ) → nat_abs (pos k -ℤ pos (b + b)) % 2 ≡ k % 2
odd_even k b =
    ⊎_elim (λ (l : k < b + b). ap (λ (z : ℤ). nat_abs z % 2) (minus_neg k (b + b) l) ∙ below l) (λ (l : b + b ≤ k). ap (λ (z : ℤ). nat_abs z % 2) (minus_is k (b + b) l) ∙ above l) (below_or k (b + b))
  where
    below : k < b + b → suc (b + b - suc k) % 2 ≡ k % 2
    below l = omega arith

    above : b + b ≤ k → (k - (b + b)) % 2 ≡ k % 2
    above l = omega arith

plus_over : (k c B : ℕ) → pos k -ℤ pos B +ℤ pos c ≡ pos (k + c) -ℤ pos B
plus_over k c B =
    zext _ _
    (omega (arith, add_parts (pos k) (neg_ℤ (pos B)), add_parts (pos k -ℤ pos B) (pos c), add_parts (pos (k + c)) (neg_ℤ (pos B)), pp_neg (pos B), nn_neg (pos B)))

module _ (D b w : ℕ) (some : 0 < D) where
  k : ℕ
  k = w / D

  r : ℕ
  r = w % D

  split : w ≡ k * D + r
  unfolding k r
  split = sym (div-add-mod' w D)

  r_below : r < D
  unfolding r
  r_below = mod-lt w (omega arith)

  v : ℤ
  v = pos w -ℤ pos ((b + b) * D)

  -- the number of whole steps below, and what is left
  floor : shr_z v D ≡ pos k -ℤ pos (b + b)
  unfolding v
  floor = ⊎_elim under over (below_or k (b + b))
    where
      over : b + b ≤ k → shr_z (pos w -ℤ pos ((b + b) * D)) D ≡ pos k -ℤ pos (b + b)
      over l =
          let m : ℕ = k - (b + b) in
          let e : k ≡ b + b + m = omega arith in
          let p = ap (λ (n : ℕ). n * D) e in
          let q : w - (b + b) * D ≡ m * D + r = omega (arith, split) in
          let s : (b + b) * D ≤ w = omega (arith, split) in
          ap (λ (z : ℤ). shr_z z D) (minus_is w ((b + b) * D) s)
          ∙ ap (λ (n : ℕ). pos (n / D)) q
          ∙ ap pos (digits_div m r_below)
          ∙ sym (minus_is k (b + b) l)

      under : k < b + b → shr_z (pos w -ℤ pos ((b + b) * D)) D ≡ pos k -ℤ pos (b + b)
      under l =
          let m : ℕ = b + b - suc k in
          let e : b + b ≡ suc k + m = omega arith in
          let p = ap (λ (n : ℕ). n * D) e in
          let rb = r_below in
          let q : (b + b) * D - suc w ≡ m * D + (D - suc r) = omega (arith, split) in
          let s : w < (b + b) * D = omega (arith, split) in
          let d : D - suc r < D = omega arith in
          ap (λ (z : ℤ). shr_z z D) (minus_neg w ((b + b) * D) s)
          ∙ ap (λ (n : ℕ). negsuc (n / D)) q
          ∙ ap negsuc (digits_div m d)
          ∙ sym (minus_neg k (b + b) l)

  left_over : rest v D ≡ r
  unfolding v
  left_over =
      ap nat_abs
      (sym (rest_is D (omega arith) (pos w -ℤ pos ((b + b) * D)))
      ∙ ap (λ (z : ℤ). pos w -ℤ pos ((b + b) * D) -ℤ z) (ap (λ (z : ℤ). z *ℤ pos D) floor ∙ minus_mul k (b + b) D)
      ∙ minus_minus w (k * D) ((b + b) * D) r split)

-- what the code works out at a unit D
abbrev pub near : ℕ → ℕ → ℕ
near D w = w / D + (w % D + D / 2 - 1 + w / D % 2) / D

module _ (q : ℕ) (some : 1 ≤ q) (few : q ≤ 52) where
  unit_is : 2 ^ q ≡ 2 * 2 ^ (q - 1)
  unit_is = let e : 1 + (q - 1) ≡ q = omega arith in ap (λ (n : ℕ). 2 ^ n) (sym e) ∙ pow-add 2 1 (q - 1)

  half_is : 2 ^ q / 2 ≡ 2 ^ (q - 1)
  half_is = omega (arith, unit_is)

  pub half_some : 1 ≤ 2 ^ q / 2
  half_some = omega (arith, half_is, pow_pos (q - 1))

  bias_is : 2 ^ 53 ≡ (2 ^ (52 - q) + 2 ^ (52 - q)) * 2 ^ q
  bias_is =
      let e : 52 - q + q ≡ 52 = omega arith in
      let p : 2 ^ 52 ≡ 2 ^ (52 - q) * 2 ^ q = ap (λ (n : ℕ). 2 ^ n) (sym e) ∙ pow-add 2 (52 - q) q in
      omega arith

  bias_by_unit : 2 ^ 53 / 2 ^ q ≡ 2 ^ (52 - q) + 2 ^ (52 - q)
  bias_by_unit =
      ap (λ (n : ℕ). n / 2 ^ q) bias_is ∙ mul-div_cancel (2 ^ (52 - q) + 2 ^ (52 - q)) (pow_pos q)

  -- R of the sum
  pub biased_R : (w : ℕ) → R (pos w -ℤ pos (2 ^ 53)) q ≡ pos (near (2 ^ q) w) -ℤ pos (2 ^ 53 / 2 ^ q)
  unfolding one_sum lowest_kept v k r
  biased_R w =
      let b : ℕ = 2 ^ (52 - q) in
      ap (λ (n : ℕ). R (pos w -ℤ pos n) q) bias_is
      ∙ R_one_sum (pos w -ℤ pos ((b + b) * 2 ^ q)) q some
      ∙ ap₂ (λ (z : ℤ) (n : ℕ). z +ℤ pos ((n + 2 ^ (q - 1) - 1 + nat_abs z % 2) / 2 ^ q)) (floor (2 ^ q) b w (pow_pos q)) (left_over (2 ^ q) b w (pow_pos q))
      ∙ ap₂ (λ (n m : ℕ). pos (w / 2 ^ q) -ℤ pos (b + b) +ℤ pos ((w % 2 ^ q + n - 1 + m) / 2 ^ q)) (sym half_is) (odd_even (w / 2 ^ q) b)
      ∙ plus_over (w / 2 ^ q) ((w % 2 ^ q + 2 ^ q / 2 - 1 + w / 2 ^ q % 2) / 2 ^ q) (b + b)
      ∙ ap (λ (n : ℕ). pos (near (2 ^ q) w) -ℤ pos n) (sym bias_by_unit)
