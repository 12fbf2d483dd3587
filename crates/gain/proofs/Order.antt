-- Scaling keeps the order of numbers, so that the least and the greatest of a block are scaled alone.
use Rattle.std.proofs.Common.{◌≡◌, refl, sym, ap, ◌∙◌, subst, true, false, List, ℕ, zero, suc, ◌+◌, ◌*◌, ◌^◌, ◌≤◌, ◌<◌, le_trans, le_of_eq, le_of_lt, mul_assoc}
use Rattle.std.proofs.Common.{mul-pos, mul-le-mul_right, arith, T, lit≤, lit<, ℤ, pos, negsuc, neg_ℤ, nat_abs, Float, true≢false, Some}
use lib.Ieee.{nan, inf, fin, binary64, up, down, mul, of_int, round}
use lib.Ieee.Fits.{down_pos}
use lib.Ieee.Exact.{HasValue}
use lib.Ieee.Nearest.{closest_mono}
use lib.Ieee.Back.{round_whole}
use Rattle.numbers.specs.Sums.{at0}
use Rattle.numbers.specs.Lists.{count}
use Rattle.numbers.specs.Extremes.{lesser, greater, picked, extreme}
use Rattle.numbers.proofs.Integers.{pp_neg, nn_neg, abs_parts}
use Rattle.numbers.proofs.Extremes.{Under, Best, least_best, greatest_best, from_first, picked_map}
use Rattle.reference.specs.Scaling.{eighth, scaled, clips}
use Rattle.floats.proofs.Bound.{AtMost, with_sign, round_signs}
use Rattle.floats.proofs.Interval.{nonneg, Leq, round_leq, leq_refl, mul_leq}
use Rattle.reference.specs.Statistics.{extremes_of}
use Rattle.gain.specs.Tallies.{tally}
use Rattle.gain.specs.Scale.{bounded}
use Rattle.gain.proofs.Scaling.{product_at_most}

-- ---- products of a number that is not negative

has_nonneg : (x : Float) (a c : ℕ) → HasValue x false a c → T (nonneg x)
has_nonneg nan a c h = absurd h
has_nonneg (inf s) a c h = absurd h
has_nonneg (fin true m e) a c h = absurd (true≢false h.0)
has_nonneg (fin false m e) a c h = tt

factor_nonneg : (factor : Float) → T (bounded factor) → T (nonneg factor)
unfolding bounded
factor_nonneg nan h = absurd h
factor_nonneg (inf s) h = absurd h
factor_nonneg (fin true m e) h = absurd h
factor_nonneg (fin false m e) h = tt

settled : (p : Float) (B : ℕ) → AtMost (with_sign false p) B 1 → T (nonneg (with_sign false p))
settled nan B a = absurd a
settled (inf s) B a = absurd a
settled (fin s m e) B a = tt

product_nonneg : (x factor : Float) (B : ℕ) → T (nonneg x) → T (nonneg factor) → AtMost (mul binary64 x factor) B 1 → T (nonneg (mul binary64 x factor))
unfolding mul
product_nonneg nan factor B p q a = absurd p
product_nonneg (inf s) factor B p q a = absurd p
product_nonneg (fin true m e) factor B p q a = absurd p
product_nonneg (fin false m e) nan B p q a = absurd q
product_nonneg (fin false m e) (inf s) B p q a = absurd q
product_nonneg (fin false m e) (fin true k d) B p q a = absurd q
product_nonneg (fin false m e) (fin false k d) B p q a =
    let signs = round_signs binary64 false (m * up e * (k * up d)) (down e * down d) in
    subst (λ (z : Float). T (nonneg z)) (sym signs) (settled (round binary64 false (m * up e * (k * up d)) (down e * down d)) B (subst (λ (z : Float). AtMost z B 1) signs a))

-- ---- the sign goes through

product_neg : (x factor : Float) → T (nonneg x) → T (nonneg factor) → mul binary64 (with_sign true x) factor ≡ with_sign true (mul binary64 x factor)
unfolding mul
product_neg nan factor p q = absurd p
product_neg (inf s) factor p q = absurd p
product_neg (fin true m e) factor p q = absurd p
product_neg (fin false m e) nan p q = absurd q
product_neg (fin false m e) (inf s) p q = absurd q
product_neg (fin false m e) (fin true k d) p q = absurd q
product_neg (fin false m e) (fin false k d) p q = round_signs binary64 true (m * up e * (k * up d)) (down e * down d)

eighth_neg : (p : Float) → T (nonneg p) → eighth (with_sign true p) ≡ neg_ℤ (eighth p)
unfolding eighth
eighth_neg nan h = absurd h
eighth_neg (inf s) h = absurd h
eighth_neg (fin true m e) h = absurd h
eighth_neg (fin false m e) h = refl

eighth_pos : (p : Float) → T (nonneg p) → eighth p ≡ pos (nat_abs (eighth p))
unfolding eighth
eighth_pos nan h = absurd h
eighth_pos (inf s) h = absurd h
eighth_pos (fin true m e) h = absurd h
eighth_pos (fin false m e) h = refl

eighth_grows : (p q : Float) → Leq p q → nat_abs (eighth p) ≤ nat_abs (eighth q)
unfolding eighth
eighth_grows nan q h = absurd h.left
eighth_grows (inf s) q h = absurd h.left
eighth_grows (fin true m e) q h = absurd h.left
eighth_grows (fin false m e) nan h = absurd h.right
eighth_grows (fin false m e) (inf s) h = absurd h.right
eighth_grows (fin false m e) (fin true n d) h = absurd h.right
eighth_grows (fin false m e) (fin false n d) h =
    closest_mono (m * up e) (down e * 8) (n * up d) (down d * 8) (mul-pos (down_pos e) (lit< tt)) (mul-pos (down_pos d) (lit< tt))
    (le_trans (le_of_eq (sym (mul_assoc (m * up e) (down d) 8))) (le_trans (mul-le-mul_right 8 h.cross) (le_of_eq (mul_assoc (n * up d) (down e) 8))))

-- ---- scaling

module _ (factor : Float) (held : T (bounded factor)) where
  nonneg_factor : T (nonneg factor)
  nonneg_factor = factor_nonneg factor held

  whole_nonneg : (n : ℕ) → n < 2 ^ 32 → T (nonneg (of_int binary64 (pos n)))
  unfolding of_int
  whole_nonneg n h = has_nonneg (round binary64 false n 1) n 1 (round_whole binary64 false n (le_trans (le_of_lt h) (lit≤ tt)))

  product_pos : (n : ℕ) → n < 2 ^ 32 → T (nonneg (mul binary64 (of_int binary64 (pos n)) factor))
  product_pos n h = product_nonneg (of_int binary64 (pos n)) factor (2 ^ 36) (whole_nonneg n h) nonneg_factor (product_at_most (pos n) factor h held)

  scaled_pos : (n : ℕ) → n < 2 ^ 32 → scaled factor (pos n) ≡ pos (nat_abs (scaled factor (pos n)))
  unfolding scaled
  scaled_pos n h = eighth_pos _ (product_pos n h)

  turned : (n : ℕ) → suc n < 2 ^ 32 → scaled factor (negsuc n) ≡ neg_ℤ (scaled factor (pos (suc n)))
  unfolding scaled of_int
  turned n h =
      ap (λ (x : Float). eighth (mul binary64 x factor)) (round_signs binary64 true (suc n) 1)
      ∙ ap eighth (product_neg (round binary64 false (suc n) 1) factor (whole_nonneg (suc n) h) nonneg_factor)
      ∙ eighth_neg _ (product_pos (suc n) h)

  scaled_neg : (n : ℕ) → suc n < 2 ^ 32 → scaled factor (negsuc n) ≡ neg_ℤ (pos (nat_abs (scaled factor (pos (suc n)))))
  scaled_neg n h = turned n h ∙ ap neg_ℤ (scaled_pos (suc n) h)

  sizes_grow : (a b : ℕ) → a ≤ b → b < 2 ^ 32 → nat_abs (scaled factor (pos a)) ≤ nat_abs (scaled factor (pos b))
  unfolding scaled of_int
  sizes_grow a b h l =
      eighth_grows _ _
      (mul_leq (round binary64 false a 1) (round binary64 false b 1) factor factor (round_leq a 1 b 1 (lit< tt) (lit< tt) (mul-le-mul_right 1 h) (whole_nonneg b l))
      (leq_refl factor nonneg_factor) (product_pos b l))

  pub scaled_grows : (x y : ℤ) → nat_abs x < 2 ^ 32 → nat_abs y < 2 ^ 32 → Under x y → Under (scaled factor x) (scaled factor y)
  scaled_grows (pos a) (pos b) p q h = rw (scaled_pos a p, scaled_pos b q) (omega (arith, sizes_grow a b (omega arith) q))
  scaled_grows (pos a) (negsuc b) p q h = absurd (omega arith)
  scaled_grows (negsuc a) (pos b) p q h = rw (scaled_neg a p, scaled_pos b q) (omega (arith, pp_neg (pos (nat_abs (scaled factor (pos (suc a)))))))
  scaled_grows (negsuc a) (negsuc b) p q h =
      rw (scaled_neg a p, scaled_neg b q)
      (omega (
        arith,
        sizes_grow (suc b) (suc a) (omega arith) p,
        pp_neg (pos (nat_abs (scaled factor (pos (suc a))))),
        nn_neg (pos (nat_abs (scaled factor (pos (suc a))))),
        pp_neg (pos (nat_abs (scaled factor (pos (suc b))))),
        nn_neg (pos (nat_abs (scaled factor (pos (suc b))))),
      ))

  -- ---- a block

  module _ (f : ℕ → ℤ) (n : ℕ) (small : (k : ℕ) → k < suc n → nat_abs (f k) < 2 ^ 31) where
    first_small : nat_abs (f 0) < 2 ^ 31
    first_small = small 0 (omega arith)

    module _ {R : ℤ → ℤ → Type 0} {pick : ℤ → ℤ → ℤ} (b : Best R pick) (grows : (x y : ℤ) → nat_abs x < 2 ^ 31 → nat_abs y < 2 ^ 31 → R x y → R (scaled factor x) (scaled factor y)) where
      pub extreme_scaled : (s : ℤ) → R (f 0) s → extreme pick (λ k. scaled factor (f k)) 0 (suc n) ≡ scaled factor (picked pick s f 0 (suc n))
      extreme_scaled s h =
          picked_map b (λ z. nat_abs z < 2 ^ 31) (scaled factor) grows (f 0) f 0 (suc n) first_small (λ k l. let e : 0 + k ≡ k = omega arith in rw e (small k l))
          ∙ ap (scaled factor) (sym (from_first b s f 0 n h))

-- the least and the greatest y of a block, from the far ends on
abbrev pub least_y : List ℤ → ℕ → ℤ
least_y ys n = picked lesser (pos 2147483647) (at0 ys) 0 n

abbrev pub greatest_y : List ℤ → ℕ → ℤ
greatest_y ys n = picked greater (negsuc 2147483647) (at0 ys) 0 n

pub block_told : (factor : Float) (ys : List ℤ) (n : ℕ) → T (bounded factor) → 0 < n → ((k : ℕ) → k < n → nat_abs (at0 ys k) < 2 ^ 31)
    → record { clipped = count (λ k. clips (scaled factor (at0 ys k))) 0 n; extremes = Some (record { lowest = scaled factor (least_y ys n); highest = scaled factor (greatest_y ys n) }) }
    ≡ tally (λ k. scaled factor (at0 ys k)) 0 n
unfolding tally extremes_of
block_told factor ys zero held some small = absurd (omega arith)
block_told factor ys (suc n) held some small =
    let first = small 0 (omega arith) in
    rw (
      extreme_scaled factor held (at0 ys) n small least_best (λ x y p q. scaled_grows factor held x y (omega arith) (omega arith)) (pos 2147483647) (omega (arith, abs_parts (at0 ys 0))),
      extreme_scaled factor held (at0 ys) n small greatest_best (λ x y p q. scaled_grows factor held y x (omega arith) (omega arith)) (negsuc 2147483647) (omega (arith, abs_parts (at0 ys 0))),
    ) refl
