-- An eighth of a float is exact, or the float is so small that it and its eighth are both nearest to 0. An eighth of a
-- float up to 2^36 is below 2^51.
use Rattle.std.proofs.Common.{◌≡◌, refl, sym, ap, ◌∙◌, subst, ℕ, zero, suc, ◌+◌, ◌-◌, ◌*◌, ◌%◌, ◌^◌, ◌≤◌, ◌<◌, le_trans, le_of_eq, lt_of_lt_of_le}
use Rattle.std.proofs.Common.{lt_of_le_of_lt, mul-one, zero-mul, zero-add, mul_comm, mul_assoc, mul-le-mul_left, mul-lt-mul_of_pos_right, mul-pos, arith, Bool}
use Rattle.std.proofs.Common.{true, false, not, ◌&&◌, ℤ, pos, negsuc, T, ltb, leb, eqb, ltb→lt, leb→le, lt→ltb, lit≤, lit<, pow-add, pow_pos, pow_mono, Float}
use Prim.Native.Nat.{compare, Ordering}
use lib.Dec.{nleb→lt}
use lib.Ieee.{nan, inf, fin, Format, binary64, prec, emax, low, up, down, nearest, round, mul, fits}
use lib.Ieee.Fits.{and_l, and_r, down_pos}
use lib.Ieee.Exact.{HasValue, round_exact}
use lib.Ieee.Nearest.{closest, closest_same}
use lib.Ieee.Back.{round_whole}
use Rattle.floats.specs.inner.Whole.{signed, whole_of, whole_over, below_51}
use Rattle.floats.proofs.Closest.{Cmp, cmp, closest_digits}
use Rattle.floats.proofs.Bound.{AtMost, round_at_most}

-- ---- below a half, 0 is nearest
pub closest_zero : (a d : ℕ) → a * 2 < d → closest a d ≡ 0
closest_zero a d h =
    ap (λ (x : ℕ). closest x d) (sym (ap (λ (x : ℕ). x + a) (zero-mul d) ∙ zero-add a))
    ∙ closest_digits 0 d a (less a d h)
    ∙ go (compare (a * 2) d) (cmp (a * 2) d)
  where
    less : (a d : ℕ) → a * 2 < d → a < d
    less a d h = omega arith

    go : (o : Ordering) → Cmp o (a * 2) d → nearest 0 o ≡ 0
    go Ordering.lt x = refl
    go Ordering.eq x = refl
    go Ordering.gt x = absurd (native.Mathlib.Nat.lt_irrefl d (native.Mathlib.Nat.lt_trans x h))

-- ---- what `fits` says of a finite value
abbrev Held : Format → ℕ → ℤ → Type 0
Held f m e = (m < 2 ^ prec f) × (m * up e < 2 ^ suc (emax f) * down e)

held : (f : Format) (s : Bool) (m : ℕ) (e : ℤ) → T (fits f (fin s m e)) → Held f m e
unfolding fits
held f s zero e t = (pow_pos (prec f), subst (λ (x : ℕ). x < 2 ^ suc (emax f) * down e) (sym (zero-mul (up e))) (mul-pos (pow_pos (suc (emax f))) (down_pos e)))
held f s (suc m) e t =
    let A = eqb (suc m % 2) 1 in
    let B = ltb (suc m) (2 ^ prec f) in
    let C = leb (down e) (2 ^ low f) in
    let D = ltb (suc m * up e) (2 ^ suc (emax f) * down e) in
    (ltb→lt (suc m) (2 ^ prec f) (and_r A B (and_l (A && B) C (and_l (A && B && C) D t))), ltb→lt (suc m * up e) (2 ^ suc (emax f) * down e) (and_r (A && B && C) D t))

-- ---- the exact eighth
reach : (l a : ℕ) → a + 3 ≤ l → l ≡ (l - (a + 3)) + (a + 3)
reach l a h = omega arith

-- m * 2 ^ b / 2 ^ a, of a format whose least value is 2 ^ -l
exact_eighth : (f : Format) (s : Bool) (m b a : ℕ) → m < 2 ^ prec f → m * 2 ^ b < 2 ^ suc (emax f) * 2 ^ a
    → a + 3 ≤ low f → HasValue (round f s (m * 2 ^ b * 1) (2 ^ a * 8)) s (m * 2 ^ b * 1) (2 ^ a * 8)
exact_eighth f s m b a small top h =
    let l = low f in
    let j = l - (a + 3) in
    let l-is : 2 ^ l ≡ 2 ^ j * (2 ^ a * 8) = ap (λ (x : ℕ). 2 ^ x) (reach l a h) ∙ pow-add 2 j (a + 3) ∙ ap (λ (x : ℕ). 2 ^ j * x) (pow-add 2 a 3) in
    let fine : m * 2 ^ (b + j) < 2 ^ (l + suc (emax f)) =
    lt_of_lt_of_le
    (lt_of_le_of_lt (le_of_eq (ap (λ (x : ℕ). m * x) (pow-add 2 b j) ∙ sym (mul_assoc m (2 ^ b) (2 ^ j)))) (mul-lt-mul_of_pos_right top (pow_pos j)))
    (le_trans (le_of_eq (mul_assoc (2 ^ suc (emax f)) (2 ^ a) (2 ^ j)))
    (le_trans (mul-le-mul_left (2 ^ suc (emax f)) (le_trans (le_of_eq (sym (pow-add 2 a j))) (pow_mono (part l a h))))
    (le_of_eq (mul_comm (2 ^ suc (emax f)) (2 ^ l) ∙ sym (pow-add 2 l (suc (emax f))))))) in
    let is : m * 2 ^ b * 1 * 2 ^ l ≡ m * 2 ^ (b + j) * (2 ^ a * 8) =
    ap (λ (x : ℕ). x * 2 ^ l) (mul-one (m * 2 ^ b))
    ∙ ap (λ (x : ℕ). m * 2 ^ b * x) l-is
    ∙ sym (mul_assoc (m * 2 ^ b) (2 ^ j) (2 ^ a * 8))
    ∙ ap (λ (x : ℕ). x * (2 ^ a * 8)) (mul_assoc m (2 ^ b) (2 ^ j) ∙ ap (λ (x : ℕ). m * x) (sym (pow-add 2 b j))) in
    round_exact f s (m * 2 ^ b * 1) (2 ^ a * 8) m (b + j) (mul-pos (pow_pos a) (lit< tt)) small fine is
  where
    part : (l a : ℕ) → a + 3 ≤ l → a + (l - (a + 3)) ≤ l
    part l a h = omega arith

-- the same number over 8, or over 1 an eighth of it
transfer : (x : Float) (s : Bool) (n d : ℕ) → 0 < d → HasValue x s (n * 1) (d * 8) → whole_of x ≡ signed s (closest n (d * 8))
unfolding whole_over
transfer nan s n d D v = absurd v
transfer (inf t) s n d D v = absurd v
transfer (fin t m e) s n d D v =
    ap (λ (z : Bool). signed z (closest (m * up e) (down e * 1))) v.0
    ∙ ap (signed s) (closest_same (m * up e) (down e * 1) n (d * 8) (mul-pos (down_pos e) (lit< tt))
    (mul-pos D (lit< tt)) (v.1 ∙ ap (λ (z : ℕ). z * down e) (mul-one n) ∙ ap (λ (z : ℕ). n * z) (sym (mul-one (down e)))))

no_sign : (s : Bool) → signed s 0 ≡ pos 0
no_sign true = refl
no_sign false = refl

-- a float up to a quarter is nearest to 0
quarter_zero : (x : Float) → AtMost x 1 4 → whole_of x ≡ pos 0
unfolding whole_over
quarter_zero nan h = absurd h
quarter_zero (inf s) h = absurd h
quarter_zero (fin s m e) h =
    ap (signed s) (closest_zero (m * up e) (down e * 1) (go (m * up e) (down e) (down_pos e) h)) ∙ no_sign s
  where
    go : (a d : ℕ) → 0 < d → a * 4 ≤ 1 * d → a * 2 < d * 1
    go a d D h = omega arith

quarter : HasValue (round binary64 false 1 4) false 1 4
unfolding round
quarter = (refl, refl)

-- m < 2 ^ 53 over 2 ^ (k + 4), past the least value
tiny : (s : Bool) (m k : ℕ) → m < 2 ^ 53 → 1074 < suc k + 3 → whole_of (round binary64 s (m * 1 * 1) (2 ^ suc k * 8)) ≡ signed s (closest (m * 1) (2 ^ suc k * 8))
tiny s m k small h =
    let d = 2 ^ suc k * 8 in
    let big : 2 ^ 1000 ≤ d = le_trans (pow_mono (far k h)) (le_of_eq (pow-add 2 (suc k) 3)) in
    let lt : m * 4 < d = lt_of_lt_of_le (mul-lt-mul_of_pos_right small (lit< tt)) (le_trans (lit≤ tt) big) in
    quarter_zero (round binary64 s (m * 1 * 1) d) (round_at_most binary64 s (m * 1 * 1) d 1 4 (mul-pos (pow_pos (suc k)) (lit< tt)) (lit< tt) (one m d lt) quarter)
    ∙ sym (ap (signed s) (closest_zero (m * 1) d (two m d lt)) ∙ no_sign s)
  where
    far : (k : ℕ) → 1074 < suc k + 3 → 1000 ≤ suc k + 3
    far k h = omega arith

    one : (m d : ℕ) → m * 4 < d → m * 1 * 1 * 4 ≤ 1 * d
    one m d h = omega arith

    two : (m d : ℕ) → m * 4 < d → m * 1 * 2 < d
    two m d h = omega arith

whole_eighth : (s : Bool) (m : ℕ) (e : ℤ) → Held binary64 m e → whole_of (round binary64 s (m * up e * 1) (down e * 8)) ≡ signed s (closest (m * up e) (down e * 8))
whole_eighth s m (pos k) h =
    transfer (round binary64 s (m * 2 ^ k * 1) 8) s (m * 2 ^ k) 1 (lit< tt) (exact_eighth binary64 s m k 0 h.0 h.1 (lit≤ tt))
whole_eighth s m (negsuc k) h = go (leb (suc k + 3) 1074) (leb→le (suc k + 3) 1074) (nleb→lt (suc k + 3) 1074)
  where
    go : (b : Bool) → (T b → suc k + 3 ≤ 1074) → (T (not b) → 1074 < suc k + 3) → whole_of (round binary64 s (m * 1 * 1) (2 ^ suc k * 8)) ≡ signed s (closest (m * 1) (2 ^ suc k * 8))
    go true p q = transfer (round binary64 s (m * 1 * 1) (2 ^ suc k * 8)) s (m * 1) (2 ^ suc k) (pow_pos (suc k)) (exact_eighth binary64 s m 0 (suc k) h.0 h.1 (p tt))
    go false p q = tiny s m k h.0 (q tt)

abbrev pub an_eighth : Float
an_eighth = fin false 1 (negsuc 2)

mul_eighth : (s : Bool) (m : ℕ) (e : ℤ) → mul binary64 (fin s m e) an_eighth ≡ round binary64 s (m * up e * 1) (down e * 8)
unfolding mul
mul_eighth true m e = refl
mul_eighth false m e = refl

pub eighth_is : (p : Float) (B : ℕ) → T (fits binary64 p) → AtMost p B 1 → whole_of (mul binary64 p an_eighth) ≡ whole_over 8 p
unfolding whole_over
eighth_is nan B t h = absurd h
eighth_is (inf s) B t h = absurd h
eighth_is (fin s m e) B t h = ap whole_of (mul_eighth s m e) ∙ whole_eighth s m e (held binary64 s m e t)

-- ---- of a float up to 2^36
at_most_below : (x : Float) → AtMost x (2 ^ 36) 1 → T (below_51 x)
at_most_below nan h = absurd h
at_most_below (inf s) h = absurd h
at_most_below (fin s m e) h = lt→ltb (m * up e) (2 ^ 51 * down e) (go (m * up e) (down e) (down_pos e) h)
  where
    go : (a d : ℕ) → 0 < d → a * 1 ≤ 2 ^ 36 * d → a < 2 ^ 51 * d
    go a d D h = omega arith

pub eighth_below : (p : Float) → AtMost p (2 ^ 36) 1 → T (below_51 (mul binary64 p an_eighth))
eighth_below nan h = absurd h
eighth_below (inf s) h = absurd h
eighth_below (fin s m e) h =
    subst (λ (x : Float). T (below_51 x)) (sym (mul_eighth s m e))
    (at_most_below (round binary64 s (m * up e * 1) (down e * 8))
    (round_at_most binary64 s (m * up e * 1) (down e * 8) (2 ^ 36) 1 (mul-pos (down_pos e) (lit< tt)) (lit< tt) (go (m * up e) (down e) h) (round_whole binary64 false (2 ^ 36) (lit≤ tt))))
  where
    go : (a d : ℕ) → a * 1 ≤ 2 ^ 36 * d → a * 1 * 1 ≤ 2 ^ 36 * (d * 8)
    go a d h = omega arith
