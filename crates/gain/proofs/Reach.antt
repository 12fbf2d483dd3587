-- The factor of every allowed gain is finite, above 0 and at most 16: what is computed at |db| lies between what is
-- computed at 0 and at 24 or 120, and antt runs those.
use Rattle.std.proofs.Common.{◌≡◌, refl, sym, subst, ◌⊎◌, inl, inr, ℕ, zero, suc, ◌*◌, ◌≤◌, zero-le, le_trans, le_of_eq, le_of_lt, zero-mul, mul-one}
use Rattle.std.proofs.Common.{lt_of_lt_of_le, mul-pos, Bool, true, false, not, ◌&&◌, ◌||◌, cond, ℤ, pos, lit≤, T, ltb, leb, eqb, ltb→lt, lt→ltb, le→leb, eqb→eq}
use Rattle.std.proofs.Common.{Float}
use lib.Ieee.{nan, inf, fin, binary64, up, down, add, mul, div, lt, le, of_int, of_bits}
use lib.Ieee.Fits.{and_i, and_l, and_r, down_pos, up_pos}
use lib.Ieee.Positive.{den, positive, first_pos}
use Rattle.floats.proofs.Interval.{nonneg, Leq, leq_refl, leq_trans, mul_leq, add_leq, div_leq}
use Rattle.reference.specs.Scaling.{whole, LN_10, magnitude, exponent, series, squared, db_to_linear, allowed}
use Rattle.gain.specs.Scale.{bounded}
use Rattle.gain.proofs.Sign.{nought, plus_not_below, minus_below, nought_not_below}

nought_leq : (y : Float) → T (nonneg y) → Leq nought y
nought_leq y h = record { left = tt; right = h; cross = rw (zero-mul (den y)) zero-le }

-- ---- the series
abbrev fine : Float → ℕ → ℕ → Float → Float → Bool
fine r zero k t s = true
fine r (suc n) k t s =
    let next = div binary64 (mul binary64 t r) (whole k) in
    nonneg (mul binary64 t r) && (positive (whole k) && (nonneg next && (nonneg (add binary64 s next) && fine r n (suc k) next (add binary64 s next))))

positive_nonneg : (x : Float) → T (positive x) → T (nonneg x)
positive_nonneg nan h = absurd h
positive_nonneg (inf s) h = absurd h
positive_nonneg (fin true m e) h = absurd h
positive_nonneg (fin false m e) h = tt

one_more : add binary64 (whole 1) nought ≡ whole 1
unfolding add of_int
one_more = refl

one_squared : mul binary64 (whole 1) (whole 1) ≡ whole 1
unfolding mul of_int
one_squared = refl

series_in : (n k : ℕ) (r R t U s S : Float) → Leq r R → Leq t U → Leq (whole 1) s → Leq s S → T (fine R n k U S) → Leq (whole 1) (series r n k t s) × Leq (series r n k t s) (series R n k U S)
unfolding series
series_in zero k r R t U s S p q l u f = (l, u)
series_in (suc n) k r R t U s S p q l u f =
    let K = whole k in
    let M = mul binary64 U R in
    let N = div binary64 M K in
    let A = add binary64 S N in
    let F = fine R n (suc k) N A in
    let f1 = and_r (nonneg M) (positive K && (nonneg N && (nonneg A && F))) f in
    let f2 = and_r (positive K) (nonneg N && (nonneg A && F)) f1 in
    let f3 = and_r (nonneg N) (nonneg A && F) f2 in
    let P : T (positive K) = and_l (positive K) (nonneg N && (nonneg A && F)) f1 in
    let m : Leq (mul binary64 t r) M = mul_leq t U r R q p (and_l (nonneg M) (positive K && (nonneg N && (nonneg A && F))) f) in
    let d : Leq (div binary64 (mul binary64 t r) K) N = div_leq (mul binary64 t r) M K K m (leq_refl K (positive_nonneg K P)) P P (and_l (nonneg N) (nonneg A && F) f2) in
    let a : Leq (add binary64 s (div binary64 (mul binary64 t r) K)) A = add_leq s S (div binary64 (mul binary64 t r) K) N u d (and_l (nonneg A) F f3) in
    let o : Leq (whole 1) (add binary64 s (div binary64 (mul binary64 t r) K)) =
    subst (λ (z : Float). Leq z (add binary64 s (div binary64 (mul binary64 t r) K))) one_more
    (add_leq (whole 1) s nought (div binary64 (mul binary64 t r) K) l (nought_leq (div binary64 (mul binary64 t r) K) d.left) a.left) in
    series_in n (suc k) r R (div binary64 (mul binary64 t r) K) N (add binary64 s (div binary64 (mul binary64 t r) K)) A p d o a (and_r (nonneg A) F f3)

-- ---- the squared
abbrev fine_squared : ℕ → Float → Bool
fine_squared zero s = true
fine_squared (suc n) s = nonneg (mul binary64 s s) && fine_squared n (mul binary64 s s)

squared_in : (n : ℕ) (s S : Float) → Leq (whole 1) s → Leq s S → T (fine_squared n S) → Leq (whole 1) (squared n s) × Leq (squared n s) (squared n S)
unfolding squared
squared_in zero s S l u f = (l, u)
squared_in (suc n) s S l u f =
    let a : Leq (mul binary64 s s) (mul binary64 S S) = mul_leq s S s S u u (and_l (nonneg (mul binary64 S S)) (fine_squared n (mul binary64 S S)) f) in
    let o : Leq (whole 1) (mul binary64 s s) = subst (λ (z : Float). Leq z (mul binary64 s s)) one_squared (mul_leq (whole 1) s (whole 1) s l l a.left) in
    squared_in n (mul binary64 s s) (mul binary64 S S) o a (and_r (nonneg (mul binary64 S S)) (fine_squared n (mul binary64 S S)) f)

-- ---- the whole

-- the exponent over 32 at x, and e^(x ln 10 / 20), for an x that is not negative
part : Float → Float
part x = div binary64 (mul binary64 x (div binary64 LN_10 (whole 20))) (whole 32)

power : Float → Float
power x = squared 5 (series (part x) 25 1 (whole 1) (whole 1))

abbrev step : Float
step = div binary64 LN_10 (whole 20)

fine_power : Float → Bool
fine_power X = nonneg (mul binary64 X step) && (nonneg (part X) && (fine (part X) 25 1 (whole 1) (whole 1) && fine_squared 5 (series (part X) 25 1 (whole 1) (whole 1))))

constants : T (nonneg step) × T (positive (whole 32)) × T (positive (whole 1))
unfolding div LN_10 of_bits of_int
constants = (tt, tt, tt)

one_self : Leq (whole 1) (whole 1)
one_self = leq_refl (whole 1) (positive_nonneg (whole 1) constants.2)

power_in : (x X : Float) → Leq x X → T (fine_power X) → Leq (whole 1) (power x) × Leq (power x) (power X)
unfolding power part fine_power
power_in x X p f =
    let M = mul binary64 X step in
    let R = div binary64 M (whole 32) in
    let S = series R 25 1 (whole 1) (whole 1) in
    let F = fine R 25 1 (whole 1) (whole 1) in
    let Q = fine_squared 5 S in
    let f1 = and_r (nonneg M) (nonneg R && (F && Q)) f in
    let f2 = and_r (nonneg R) (F && Q) f1 in
    let P = constants.1 in
    let m : Leq (mul binary64 x step) M = mul_leq x X step step p (leq_refl step constants.0) (and_l (nonneg M) (nonneg R && (F && Q)) f) in
    let r : Leq (div binary64 (mul binary64 x step) (whole 32)) R =
    div_leq (mul binary64 x step) M (whole 32) (whole 32) m (leq_refl (whole 32) (positive_nonneg (whole 32) P)) P P (and_l (nonneg R) (F && Q) f1) in
    let s = series_in 25 1 (div binary64 (mul binary64 x step) (whole 32)) R (whole 1) (whole 1) (whole 1) (whole 1) r one_self one_self one_self (and_l F Q f2) in
    squared_in 5 (series (div binary64 (mul binary64 x step) (whole 32)) 25 1 (whole 1) (whole 1)) S s.0 s.1 (and_r F Q f2)

-- ---- run at 24 and at 120
abbrev top : Float
top = fin false 3 (pos 3)

abbrev bottom : Float
bottom = fin false 15 (pos 3)

abbrev sixteen : Float
sixteen = fin false 1 (pos 4)

fine_top : T (fine_power top)
unfolding fine_power part LN_10 of_bits of_int series mul div add
fine_top = tt

fine_bottom : T (fine_power bottom)
unfolding fine_power part LN_10 of_bits of_int series mul div add
fine_bottom = tt

top_sixteen : Leq (power top) sixteen
unfolding power part LN_10 of_bits of_int series squared mul div add
top_sixteen = record { left = tt; right = tt; cross = lit≤ tt }

bottom_positive : T (positive (power bottom)) × T (positive (div binary64 (whole 1) (power bottom)))
unfolding power part LN_10 of_bits of_int series squared mul div add
bottom_positive = (tt, tt)

one_inverse : div binary64 (whole 1) (whole 1) ≡ whole 1
unfolding div of_int
one_inverse = refl

one_sixteen : Leq (whole 1) sixteen
unfolding of_int
one_sixteen = record { left = tt; right = tt; cross = lit≤ tt }

-- ---- above 0, and at most 16
positive_above : (lo x : Float) → T (positive lo) → Leq lo x → T (positive x)
positive_above nan x p l = absurd p
positive_above (inf s) x p l = absurd p
positive_above (fin true m e) x p l = absurd p
positive_above (fin false m e) nan p l = absurd l.right
positive_above (fin false m e) (inf s) p l = absurd l.right
positive_above (fin false m e) (fin true n d) p l = absurd l.right
positive_above (fin false m e) (fin false n d) p l =
    lt→ltb 0 n (first_pos n (up d) (first_pos (n * up d) (down e) (lt_of_lt_of_le (mul-pos (mul-pos (ltb→lt 0 m p) (up_pos e)) (down_pos d)) l.cross)))

bounded_of : (x : Float) → T (positive x) → Leq x sixteen → T (bounded x)
unfolding bounded
bounded_of nan p l = absurd p
bounded_of (inf s) p l = absurd p
bounded_of (fin true m e) p l = absurd p
bounded_of (fin false m e) p l = and_i (ltb 0 m) (leb (m * up e) (16 * down e)) p (le→leb (m * up e) (16 * down e) (le_trans (le_of_eq (sym (mul-one (m * up e)))) l.cross))

up_bounded : (x : Float) → Leq x top → T (bounded (power x))
up_bounded x p =
    let k = power_in x top p fine_top in
    bounded_of (power x) (positive_above (whole 1) (power x) constants.2 k.0) (leq_trans (power x) (power top) sixteen k.1 top_sixteen)

down_bounded : (x : Float) → Leq x bottom → T (bounded (div binary64 (whole 1) (power x)))
down_bounded x p =
    let e = power x in
    let k = power_in x bottom p fine_bottom in
    let P : T (positive e) = positive_above (whole 1) e constants.2 k.0 in
    let u : Leq (div binary64 (whole 1) e) (whole 1) =
    subst (λ (z : Float). Leq (div binary64 (whole 1) e) z) one_inverse
    (div_leq (whole 1) (whole 1) e (whole 1) one_self k.0 constants.2 P (subst (λ (z : Float). T (nonneg z)) (sym one_inverse) one_self.left)) in
    let l : Leq (div binary64 (whole 1) (power bottom)) (div binary64 (whole 1) e) = div_leq (whole 1) (whole 1) (power bottom) e one_self k.1 P bottom_positive.0 u.left in
    bounded_of (div binary64 (whole 1) e) (positive_above (div binary64 (whole 1) (power bottom)) (div binary64 (whole 1) e) bottom_positive.1 l)
    (leq_trans (div binary64 (whole 1) e) (whole 1) sixteen u one_sixteen)

-- ---- by the sign of db
whole_0 : whole 0 ≡ nought
unfolding of_int
whole_0 = refl

linear_is : (db : Float) → db_to_linear db ≡ cond (lt db (whole 0)) (div binary64 (whole 1) (power (magnitude db))) (power (magnitude db))
unfolding db_to_linear exponent power part
linear_is db = refl

not_below : (db : Float) → lt db nought ≡ false → Leq (magnitude db) top → T (bounded (db_to_linear db))
not_below db h p = rw (linear_is db, whole_0, h) (up_bounded (magnitude db) p)

is_below : (db : Float) → lt db nought ≡ true → Leq (magnitude db) bottom → T (bounded (db_to_linear db))
is_below db h p = rw (linear_is db, whole_0, h) (down_bounded (magnitude db) p)

both : (db : Float) → T (allowed db) → T (le (fin true 15 (pos 3)) db) × T (le db top)
unfolding allowed of_int
both db h = (and_l (le (fin true 15 (pos 3)) db) (le db top) h, and_r (le (fin true 15 (pos 3)) db) (le db top) h)

or_split : (a b : Bool) → T (a || b) → T a ⊎ T b
or_split true b t = inl tt
or_split false b t = inr t

plus_leq : (m : ℕ) (e : ℤ) → T (le (fin false m e) top) → Leq (fin false m e) top
unfolding le
plus_leq m e t = record { left = tt; right = tt; cross = go (m * up e * 1) (24 * down e) true t }
  where
    go : (a b : ℕ) (c : Bool) → T (ltb a b || (eqb a b && c)) → a ≤ b
    go a b c h = elim (or_split (ltb a b) (eqb a b && c) h) [ inl u ↦ le_of_lt (ltb→lt a b u) | inr u ↦ le_of_eq (eqb→eq a b (and_l (eqb a b) c u)) ]

minus_leq : (m : ℕ) (e : ℤ) → T (le (fin true 15 (pos 3)) (fin true m e)) → Leq (fin false m e) bottom
unfolding le
minus_leq m e t = record { left = tt; right = tt; cross = go (120 * down e) (m * up e * 1) true t }
  where
    go : (a b : ℕ) (c : Bool) → T (ltb b a || (eqb a b && c)) → b ≤ a
    go a b c h = elim (or_split (ltb b a) (eqb a b && c) h) [ inl u ↦ le_of_lt (ltb→lt b a u) | inr u ↦ le_of_eq (sym (eqb→eq a b (and_l (eqb a b) c u))) ]

nought_below_top : (e : ℤ) → Leq (fin false 0 e) top
nought_below_top e = record { left = tt; right = tt; cross = simp zero-mul zero-le }

never : (t : Bool) → T ((not t || false) && (t || false)) → ⊥
never true h = h
never false h = h

pub factor_bounded : (db : Float) → T (allowed db) → T (bounded (db_to_linear db))
unfolding le magnitude allowed of_int
factor_bounded nan h = absurd h
factor_bounded (inf t) h = absurd (never t h)
factor_bounded (fin false m e) h = not_below (fin false m e) (plus_not_below m e) (plus_leq m e (both (fin false m e) h).1)
factor_bounded (fin true zero e) h = not_below (fin true 0 e) (nought_not_below e) (nought_below_top e)
factor_bounded (fin true (suc m) e) h = is_below (fin true (suc m) e) (minus_below m e) (minus_leq (suc m) e (both (fin true (suc m) e) h).0)
