-- Sums, products and quotients of floats that are finite and not negative grow with their operands. So what is computed
-- from an x between 0 and X lies between what is computed from 0 and from X.
use Rattle.std.proofs.Common.{◌≡◌, refl, sym, subst, ℕ, zero, suc, ◌+◌, ◌*◌, ◌≤◌, ◌<◌, le_refl, le_trans, le_of_eq, mul_comm, mul_assoc, mul_left_comm}
use Rattle.std.proofs.Common.{mul-le-mul, mul-le-mul_right, mul-pos, arith, Bool, true, false, not, cond, T, eqb, ltb→lt, Float}
use native.Mathlib.Nat.{mul-mul-mul_comm}
use lib.Ieee.{nan, inf, fin, binary64, up, down, round, add, mul, div, le}
use lib.Ieee.Fits.{up_pos}
use lib.Ieee.Exact.{HasValue}
use lib.Ieee.Bits.{cond_no}
use lib.Ieee.Order.{round_mono}
use lib.Ieee.Positive.{num, den, den_pos, positive, through}
use Rattle.floats.proofs.Bound.{with_sign, AtMost, round_signs, under}

-- finite and not negative
abbrev pub nonneg : Float → Bool
nonneg nan = false
nonneg (inf s) = false
nonneg (fin true m e) = false
nonneg (fin false m e) = true

-- x ≤ y, of such floats
pub record Leq (x y : Float) : Type 0 where
  pub left : T (nonneg x)
  pub right : T (nonneg y)
  pub cross : num x * den y ≤ num y * den x

own : (y : Float) → T (nonneg y) → HasValue y false (num y) (den y)
own nan h = absurd h
own (inf s) h = absurd h
own (fin true m e) h = absurd h
own (fin false m e) h = (refl, refl)

at_most_leq : (x y : Float) → T (nonneg y) → AtMost (with_sign false x) (num y) (den y) → Leq (with_sign false x) y
at_most_leq nan y h a = absurd a
at_most_leq (inf s) y h a = absurd a
at_most_leq (fin s m e) y h a = record { left = tt; right = h; cross = a }

-- fractions in order round in order
pub round_leq : (a b c d : ℕ) → 0 < b → 0 < d → a * d ≤ c * b → T (nonneg (round binary64 false c d)) → Leq (round binary64 false a b) (round binary64 false c d)
round_leq a b c d B D h p =
    let x = round binary64 false a b in
    let y = round binary64 false c d in
    let e : x ≡ with_sign false x = round_signs binary64 false a b in
    subst (λ (z : Float). Leq z y) (sym e) (at_most_leq x y p (under false x y (num y) (den y) (own y p) (subst (λ (z : Float). T (le z y)) e (round_mono binary64 a b c d B D h))))

pub leq_refl : (x : Float) → T (nonneg x) → Leq x x
leq_refl x h = record { left = h; right = h; cross = le_refl (num x * den x) }

pub leq_trans : (x y z : Float) → Leq x y → Leq y z → Leq x z
leq_trans x y z p q = record { left = p.left; right = q.right; cross = through (num x) (num y) (num z) (den x) (den y) (den z) (den_pos y) p.cross q.cross }

-- ---- the operations, as one rounded fraction
mul_is : (x y : Float) → T (nonneg x) → T (nonneg y) → mul binary64 x y ≡ round binary64 false (num x * num y) (den x * den y)
unfolding mul
mul_is nan y p q = absurd p
mul_is (inf s) y p q = absurd p
mul_is (fin true m e) y p q = absurd p
mul_is (fin false m e) nan p q = absurd q
mul_is (fin false m e) (inf t) p q = absurd q
mul_is (fin false m e) (fin true n d) p q = absurd q
mul_is (fin false m e) (fin false n d) p q = refl

add_is : (x y : Float) → T (nonneg x) → T (nonneg y) → add binary64 x y ≡ round binary64 false (num x * den y + num y * den x) (den x * den y)
unfolding add
add_is nan y p q = absurd p
add_is (inf s) y p q = absurd p
add_is (fin true m e) y p q = absurd p
add_is (fin false m e) nan p q = absurd q
add_is (fin false m e) (inf t) p q = absurd q
add_is (fin false m e) (fin true n d) p q = absurd q
add_is (fin false m e) (fin false n d) p q = refl

not_nought : (n : ℕ) → 0 < n → T (not (eqb n 0))
not_nought zero h = absurd (native.Mathlib.Nat.lt_irrefl 0 h)
not_nought (suc n) h = subst (λ (b : Bool). T (not b)) (sym (lib.Dec.eqb-suc-zero n)) tt

div_is : (x y : Float) → T (nonneg x) → T (positive y) → div binary64 x y ≡ round binary64 false (num x * den y) (num y * den x)
unfolding div
div_is nan y p q = absurd p
div_is (inf s) y p q = absurd p
div_is (fin true m e) y p q = absurd p
div_is (fin false m e) nan p q = absurd q
div_is (fin false m e) (inf t) p q = absurd q
div_is (fin false m e) (fin true n d) p q = absurd q
div_is (fin false m e) (fin false n d) p q =
    cond_no (eqb n 0) (cond (eqb m 0) nan (inf false)) (round binary64 false (m * up e * down d) (n * up d * down e)) (not_nought n (ltb→lt 0 n q))

-- ---- the operations in order
pub mul_leq : (x x' y y' : Float) → Leq x x' → Leq y y' → T (nonneg (mul binary64 x' y')) → Leq (mul binary64 x y) (mul binary64 x' y')
mul_leq x x' y y' p q h =
    subst (λ (z : Float). Leq z (mul binary64 x' y')) (sym (mul_is x y p.left q.left))
    (subst (λ (z : Float). Leq (round binary64 false (num x * num y) (den x * den y)) z) (sym (mul_is x' y' p.right q.right))
    (round_leq (num x * num y) (den x * den y) (num x' * num y') (den x' * den y') (mul-pos (den_pos x) (den_pos y)) (mul-pos (den_pos x') (den_pos y'))
    (le_trans (le_of_eq (mul-mul-mul_comm (num x) (num y) (den x') (den y'))) (le_trans (mul-le-mul p.cross q.cross) (le_of_eq (mul-mul-mul_comm (num x') (den x) (num y') (den y)))))
    (subst (λ (z : Float). T (nonneg z)) (mul_is x' y' p.right q.right) h)))

add_cross : (n d n' d' m c m' c' : ℕ) → n * d' ≤ n' * d → m * c' ≤ m' * c → (n * c + m * d) * (d' * c') ≤ (n' * c' + m' * d') * (d * c)
add_cross n d n' d' m c m' c' h k =
    let a : n * d' * (c * c') ≤ n' * d * (c * c') = mul-le-mul_right (c * c') h in
    let b : m * c' * (d * d') ≤ m' * c * (d * d') = mul-le-mul_right (d * d') k in
    omega arith

pub add_leq : (x x' y y' : Float) → Leq x x' → Leq y y' → T (nonneg (add binary64 x' y')) → Leq (add binary64 x y) (add binary64 x' y')
add_leq x x' y y' p q h =
    subst (λ (z : Float). Leq z (add binary64 x' y')) (sym (add_is x y p.left q.left))
    (subst (λ (z : Float). Leq (round binary64 false (num x * den y + num y * den x) (den x * den y)) z) (sym (add_is x' y' p.right q.right))
    (round_leq (num x * den y + num y * den x) (den x * den y) (num x' * den y' + num y' * den x') (den x' * den y') (mul-pos (den_pos x) (den_pos y)) (mul-pos (den_pos x') (den_pos y'))
    (add_cross (num x) (den x) (num x') (den x') (num y) (den y) (num y') (den y') p.cross q.cross)
    (subst (λ (z : Float). T (nonneg z)) (add_is x' y' p.right q.right) h)))

div_cross : (n d n' d' a b a' b' : ℕ) → n * d' ≤ n' * d → a' * b ≤ a * b' → n * b * (a' * d') ≤ n' * b' * (a * d)
div_cross n d n' d' a b a' b' h k =
    le_trans (le_of_eq e) (le_trans (mul-le-mul h k) (le_of_eq f))
  where
    e : n * b * (a' * d') ≡ n * d' * (a' * b)
    e = simp (mul_assoc, mul_comm, mul_left_comm)

    f : n' * d * (a * b') ≡ n' * b' * (a * d)
    f = simp (mul_assoc, mul_comm, mul_left_comm)

num_pos : (x : Float) → T (positive x) → 0 < num x
num_pos nan p = absurd p
num_pos (inf s) p = absurd p
num_pos (fin true m e) p = absurd p
num_pos (fin false m e) p = mul-pos (ltb→lt 0 m p) (up_pos e)

-- x / y for x ≤ x' and y' ≤ y
pub div_leq : (x x' y y' : Float) → Leq x x' → Leq y' y → T (positive y') → T (positive y) → T (nonneg (div binary64 x' y')) → Leq (div binary64 x y) (div binary64 x' y')
div_leq x x' y y' p q P' P h =
    subst (λ (z : Float). Leq z (div binary64 x' y')) (sym (div_is x y p.left P))
    (subst (λ (z : Float). Leq (round binary64 false (num x * den y) (num y * den x)) z) (sym (div_is x' y' p.right P'))
    (round_leq (num x * den y) (num y * den x) (num x' * den y') (num y' * den x') (mul-pos (num_pos y P) (den_pos x)) (mul-pos (num_pos y' P') (den_pos x'))
    (div_cross (num x) (den x) (num x') (den x') (num y) (den y) (num y') (den y') p.cross q.cross)
    (subst (λ (z : Float). T (nonneg z)) (div_is x' y' p.right P') h)))
