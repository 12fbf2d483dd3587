-- Where `round`'s unit is 1: a fraction from 2 ^ (prec - 1) up to 2 ^ prec rounds to the nearest whole number. So x +
-- M, for M = 3 * 2 ^ 51 and an x below 2 ^ 51 in size, is M + x to the nearest whole number, and taking M away again,
-- which is exact, leaves the whole number nearest to x, never -0.
use Rattle.std.proofs.Common.{◌≡◌, refl, sym, ap, ◌∙◌, subst, ℕ, zero, suc, ◌+◌, ◌-◌, ◌*◌, ◌/◌, ◌%◌, ◌^◌, ◌≤◌, ◌<◌, le_trans, le_of_eq, lt_of_lt_of_le}
use Rattle.std.proofs.Common.{lt_of_le_of_lt, lt_of_not-le, not-le_of_lt, mul-one, mul_assoc, mul_right_comm, add-mul, mul-le-mul_right}
use Rattle.std.proofs.Common.{mul-lt-mul_of_pos_right, mul-pos, le-div_iff_mul-le, div-lt_iff_lt-mul, arith, Bool, true, false, cond, ◌&&◌, true≢false, ℤ, pos}
use Rattle.std.proofs.Common.{T, ltb, ltb→lt, lt→ltb, le→leb, lit≤, lit<, pow-add, pow_pos, pow_mono, Float}
use Prim.Native.Nat.{compare}
use native.Mathlib.Nat.{eq_of_mul-eq-mul_right}
use lib.Pow.{pow-lt}
use lib.Arith.{le→nltb}
use lib.Ieee.{nan, inf, fin, Format, binary64, prec, emax, low, up, down, size, units, round, sum, add, sub, of_int, to_signed, in_signed, in_float}
use lib.Ieee.Digits.{size-lt, size-le}
use lib.Ieee.Fits.{round_is, nearest-le, down_pos, two, two-le_pos}
use lib.Ieee.Exact.{HasValue, units_val}
use lib.Ieee.Nearest.{closest, closest_same}
use lib.Ieee.Back.{positive_back, negative_back}
use lib.Ieee.Scale.{round_same}
use lib.Ieee.Bits.{is_true, is_false}
use Rattle.floats.specs.inner.Whole.{signed, whole_of, whole_over, below_51}
use Rattle.floats.proofs.Closest.{closest_above, closest_below}

-- ---- a number's digits
size_gt : (n j : ℕ) → 2 ^ j ≤ n → j < size n
size_gt n j h = lt_of_not-le (λ (g : size n ≤ j). not-le_of_lt (lt_of_lt_of_le (size-lt n) (pow_mono g)) h)

-- from p - 1 + l digits' least to p + l digits' most there are p + l digits, of which l are dropped
dropped : (p l z : ℕ) → 0 < p → p - 1 + l < z → z ≤ p + l → z - p ≡ l
dropped p l z P a b = omega arith

pub whole_value : (x : Float) (s : Bool) (q l : ℕ) → 0 < l → HasValue x s (q * l) l → HasValue x s q 1
whole_value nan s q l L h = h
whole_value (inf t) s q l L h = h
whole_value (fin t m e) s q l L h = (h.0, mul-one (m * up e) ∙ eq_of_mul-eq-mul_right l L (m * up e) (q * down e) (h.1 ∙ mul_right_comm q l (down e)))

pub round_unit : (f : Format) (a d : ℕ) → 0 < d → 2 ^ (prec f - 1) * d ≤ a → a < 2 ^ prec f * d → HasValue (round f false a d) false (closest a d) 1
round_unit f a d D lo hi =
    let p = prec f in
    let l = low f in
    let n = a * 2 ^ l in
    let P : 0 < p = two-le_pos p (two f) in
    let lo' : 2 ^ (p - 1 + l) ≤ n / d =
    (le-div_iff_mul-le D).1
    (le_trans (le_of_eq (ap (λ (x : ℕ). x * d) (pow-add 2 (p - 1) l) ∙ mul_right_comm (2 ^ (p - 1)) (2 ^ l) d)) (mul-le-mul_right (2 ^ l) lo)) in
    let hi' : n / d < 2 ^ (p + l) =
    (div-lt_iff_lt-mul D).1
    (lt_of_lt_of_le (mul-lt-mul_of_pos_right hi (pow_pos l)) (le_of_eq (mul_right_comm (2 ^ p) d (2 ^ l) ∙ ap (λ (x : ℕ). x * d) (sym (pow-add 2 p l))))) in
    let k-is : size (n / d) - p ≡ l = dropped p l (size (n / d)) P (size_gt (n / d) (p - 1 + l) lo') (size-le (n / d) (p + l) hi') in
    let q = closest a d in
    let q-le : q ≤ 2 ^ p = le_trans (nearest-le (a / d) (compare (a % d * 2) d)) ((div-lt_iff_lt-mul D).1 hi) in
    let same : closest n (d * 2 ^ l) ≡ q = closest_same n (d * 2 ^ l) a d (mul-pos D (pow_pos l)) D (mul_right_comm a (2 ^ l) d ∙ mul_assoc a d (2 ^ l)) in
    let room : q * 2 ^ l < 2 ^ (l + suc (emax f)) =
    lt_of_le_of_lt (le_trans (mul-le-mul_right (2 ^ l) q-le) (le_of_eq (sym (pow-add 2 p l)))) (pow-lt (fit f)) in
    let is : round f false a d ≡ units f false q l =
    round_is f false a d
    ∙ ap (λ (k : ℕ). units f false (closest n (d * 2 ^ k)) k) k-is
    ∙ ap (λ (x : ℕ). units f false x l) same in
    whole_value (round f false a d) false q (2 ^ l) (pow_pos l)
    (subst (λ (x : Float). HasValue x false (q * 2 ^ l) (2 ^ l)) (sym is) (units_val f false q l room))
  where
    fit : (f : Format) → prec f + low f < low f + suc (emax f)
    fit lib.Ieee.binary32 = lit< tt
    fit binary64 = lit< tt

-- ---- 3 * 2 ^ 51
abbrev pub magic : Float
magic = fin false 3 (pos 51)

-- it is twice this
abbrev half : ℕ
half = 3377699720527872

-- sums and differences with one denominator, as `sum` picks them
sum_more : (f : Format) (a b c : ℕ) → sum f false a false b c ≡ round f false (a + b) c
unfolding sum
sum_more f a b c = refl

sum_less : (f : Format) (a b c : ℕ) → a < b → sum f true a false b c ≡ round f false (b - a) c
unfolding sum
sum_less f a b c h = ap (λ (t : Bool). cond t (round f false (b - a) c) (round f (true && ltb b a) (a - b) c)) (is_true (ltb a b) (lt→ltb a b h))

diff_up : (f : Format) (a b c : ℕ) → b ≤ a → sum f false a true b c ≡ round f false (a - b) c
unfolding sum
diff_up f a b c h = ap (λ (t : Bool). cond t (round f true (b - a) c) (round f false (a - b) c)) (is_false (ltb a b) (le→nltb a b h))

diff_down : (f : Format) (a b c : ℕ) → a < b → sum f false a true b c ≡ round f true (b - a) c
unfolding sum
diff_down f a b c h = ap (λ (t : Bool). cond t (round f true (b - a) c) (round f false (a - b) c)) (is_true (ltb a b) (lt→ltb a b h))

-- ---- x + M is M + c or M - c, c the whole number nearest to x's size
abbrev Beside : Bool → ℕ → ℕ → Type 0
Beside false c w = w ≡ half * 2 + c
Beside true c w = w + c ≡ half * 2

add_is : (s : Bool) (m : ℕ) (e : ℤ) → add binary64 (fin s m e) magic ≡ sum binary64 s (m * up e * 1) false (6755399441055744 * down e) (down e * 1)
unfolding add
add_is s m e = refl

bounds_more : (a d : ℕ) → a < 2 ^ 51 * d → (2 ^ 52 * d ≤ a + half * 2 * d) × (a + half * 2 * d < 2 ^ 53 * d)
bounds_more a d h = omega arith

bounds_less : (a d : ℕ) → a < 2 ^ 51 * d → (2 ^ 52 * d ≤ half * 2 * d - a) × (half * 2 * d - a < 2 ^ 53 * d) × (a < half * 2 * d)
bounds_less a d h = omega arith

rounded : (s : Bool) (a d : ℕ) → 0 < d → a < 2 ^ 51 * d → (w : ℕ) × HasValue (sum binary64 s a false (half * 2 * d) d) false w 1 × Beside s (closest a d) w
rounded false a d D h =
    let b = bounds_more a d h in (
      closest (a + half * 2 * d) d,
      subst (λ (x : Float). HasValue x false (closest (a + half * 2 * d) d) 1)
          (sym (sum_more binary64 a (half * 2 * d) d)) (round_unit binary64 (a + half * 2 * d) d D b.0 b.1),
      closest_above half a d D,
    )
rounded true a d D h =
    let b = bounds_less a d h in (
      closest (half * 2 * d - a) d,
      subst (λ (x : Float). HasValue x false (closest (half * 2 * d - a) d) 1)
          (sym (sum_less binary64 a (half * 2 * d) d b.2)) (round_unit binary64 (half * 2 * d - a) d D b.0 b.1),
      closest_below half a d D b.2,
    )

-- ---- M taken away
sub_is : (m : ℕ) (e : ℤ) → sub binary64 (fin false m e) magic ≡ sum binary64 false (m * up e * 1) true (6755399441055744 * down e) (down e * 1)
unfolding sub
sub_is m e = refl

more : (w c d : ℕ) → w ≡ half * 2 + c → (half * 2 * d ≤ w * d) × ((w * d - half * 2 * d) * 1 ≡ c * d)
more w c d e = let x : w * d ≡ half * 2 * d + c * d = ap (λ (z : ℕ). z * d) e ∙ add-mul (half * 2) c d in omega arith

less : (w c d : ℕ) → 0 < d → w + suc c ≡ half * 2 → (w * d < half * 2 * d) × ((half * 2 * d - w * d) * 1 ≡ suc c * d)
less w c d D e = let x : w * d + suc c * d ≡ half * 2 * d = sym (add-mul w (suc c) d) ∙ ap (λ (z : ℕ). z * d) e in let y : suc c * d ≡ c * d + d = native.Mathlib.Nat.suc-mul c d in omega arith

taken : (s : Bool) (w c d : ℕ) → 0 < d → Beside s c w → sum binary64 false (w * d) true (half * 2 * d) d ≡ of_int binary64 (signed s c)
unfolding of_int
taken false w c d D b =
    let k = more w c d b in
    diff_up binary64 (w * d) (half * 2 * d) d k.0 ∙ round_same binary64 false (w * d - half * 2 * d) d c 1 D (lit< tt) k.1
taken true w zero d D b =
    let k = more w 0 d (sym (native.Mathlib.Nat.add-zero w) ∙ b) in
    diff_up binary64 (w * d) (half * 2 * d) d k.0 ∙ round_same binary64 false (w * d - half * 2 * d) d 0 1 D (lit< tt) k.1
taken true w (suc c) d D b =
    let k = less w c d D b in
    diff_down binary64 (w * d) (half * 2 * d) d k.0 ∙ round_same binary64 true (half * 2 * d - w * d) d (suc c) 1 D (lit< tt) k.1

away : (t : Float) (s : Bool) (w c : ℕ) → HasValue t false w 1 → Beside s c w → sub binary64 t magic ≡ of_int binary64 (signed s c)
away nan s w c v b = absurd v
away (inf t) s w c v b = absurd v
away (fin true m e) s w c v b = absurd (true≢false v.0)
away (fin false m e) s w c v b =
    sub_is m e
    ∙ ap (λ (x : ℕ). sum binary64 false x true (half * 2 * down e) (down e * 1)) v.1
    ∙ ap (λ (x : ℕ). sum binary64 false (w * down e) true (half * 2 * down e) x) (mul-one (down e))
    ∙ taken s w c (down e) (down_pos e) b

-- ---- both: the whole number nearest to x, as a float, and what the cast of it gives
pub nearest_is : (x : Float) → T (below_51 x) → sub binary64 (add binary64 x magic) magic ≡ of_int binary64 (whole_of x)
unfolding whole_over
nearest_is nan h = absurd h
nearest_is (inf s) h = absurd h
nearest_is (fin s m e) h =
    let a = m * up e in
    let d = down e in
    let k = rounded s a d (down_pos e) (ltb→lt a (2 ^ 51 * d) h) in
    ap (λ (x : Float). sub binary64 x magic) (add_is s m e ∙ ap (λ (x : ℕ). sum binary64 s x false (half * 2 * d) (d * 1)) (mul-one a)
    ∙ ap (λ (x : ℕ). sum binary64 s a false (half * 2 * d) x) (mul-one d))
    ∙ away (sum binary64 s a false (half * 2 * d) d) s k.0 (closest a d) k.1 k.2
    ∙ ap (λ (x : ℕ). of_int binary64 (signed s (closest a x))) (sym (mul-one d))

-- a whole number up to 2 ^ 53 comes back from its float
pub comes_back : (s : Bool) (c : ℕ) → c ≤ 2 ^ 53 → T (in_signed binary64 63 (of_int binary64 (signed s c))) × (to_signed 63 (of_int binary64 (signed s c)) ≡ signed s c)
unfolding in_float
comes_back false c h = positive_back binary64 63 c (le→leb c (2 ^ 53) h) (lt_of_le_of_lt h (lit< tt))
comes_back true zero h = positive_back binary64 63 0 tt (lit< tt)
comes_back true (suc c) h = negative_back binary64 63 c (lt→ltb c (2 ^ 53) h) (le_trans h (lit≤ tt))

pub closest_le : (a d b : ℕ) → 0 < d → a < b * d → closest a d ≤ b
closest_le a d b D h = le_trans (nearest-le (a / d) (compare (a % d * 2) d)) ((div-lt_iff_lt-mul D).1 h)

pub cast_is : (x : Float) → T (below_51 x) → T (in_signed binary64 63 (sub binary64 (add binary64 x magic) magic)) × (to_signed 63 (sub binary64 (add binary64 x magic) magic) ≡ whole_of x)
unfolding whole_over
cast_is nan h = absurd h
cast_is (inf s) h = absurd h
cast_is (fin s m e) h =
    let c = closest (m * up e) (down e * 1) in
    let le : c ≤ 2 ^ 53 =
    le_trans (closest_le (m * up e) (down e * 1) (2 ^ 51) (mul-pos (down_pos e) (lit< tt))
    (subst (λ (d : ℕ). m * up e < 2 ^ 51 * d) (sym (mul-one (down e))) (ltb→lt (m * up e) (2 ^ 51 * down e) h))) (lit≤ tt) in
    subst (λ (z : Float). T (in_signed binary64 63 z) × (to_signed 63 z ≡ signed s c)) (sym (nearest_is (fin s m e) h)) (comes_back s c le)
