-- The nearest whole number to M + a / d and to M - a / d, for an even M: M plus or minus that of a / d. Nothing here is
-- about floats.
use Rattle.std.proofs.Common.{◌≡◌, refl, sym, ap, ◌∙◌, subst, ◌⊎◌, inl, inr, ℕ, suc, ◌+◌, ◌-◌, ◌*◌, ◌/◌, ◌%◌, ◌≤◌, ◌<◌, mod-lt, div-add-mod', add-mul, suc-mul}
use Rattle.std.proofs.Common.{eq-zero-or-pos, arith, not, T, eqb, leb→le, eqb→eq}
use Prim.Native.Nat.{compare, Ordering}
use lib.Dec.{is_le, compare_is_eq, nleb→lt, eqb_refl}
use lib.Arith.{lt_of_le-ne, digits_div, digits_mod}
use lib.Ieee.{nearest}
use lib.Ieee.Nearest.{closest}

-- ---- what `compare` says (as lib.Ieee.Nearest has it, which keeps it to itself)
abbrev pub Cmp : Ordering → ℕ → ℕ → Type 0
Cmp Ordering.lt a b = a < b
Cmp Ordering.eq a b = a ≡ b
Cmp Ordering.gt a b = b < a

pub cmp : (a b : ℕ) → Cmp (compare a b) a b
cmp a b = go (compare a b) (leb→le a b) (nleb→lt a b) (eqb→eq a b) (λ (e : a ≡ b). subst (λ (x : ℕ). T (eqb a x)) e (eqb_refl a))
  where
    go : (o : Ordering) → (T (is_le o) → a ≤ b) → (T (not (is_le o)) → b < a) → (T (compare_is_eq o) → a ≡ b) → (a ≡ b → T (compare_is_eq o)) → Cmp o a b
    go Ordering.lt h k e n = lt_of_le-ne (h tt) n
    go Ordering.eq h k e n = e tt
    go Ordering.gt h k e n = k tt

-- ---- a fraction by its digits
pub closest_digits : (w d r : ℕ) → r < d → closest (w * d + r) d ≡ nearest w (compare (r * 2) d)
closest_digits w d r h = rw (digits_div w h, digits_mod w h)

-- ---- M + a / d
pub nearest_shift : (o : Ordering) (h q : ℕ) → nearest (h * 2 + q) o ≡ h * 2 + nearest q o
nearest_shift Ordering.lt h q = refl
nearest_shift Ordering.eq h q = omega arith
nearest_shift Ordering.gt h q = omega arith

pub closest_above : (h a d : ℕ) → 0 < d → closest (a + h * 2 * d) d ≡ h * 2 + closest a d
closest_above h a d D =
    let q = a / d in
    let r = a % d in
    let L : r < d = mod-lt a D in
    let e : q * d + r ≡ a = div-add-mod' a d in
    let m : (h * 2 + q) * d ≡ h * 2 * d + q * d = add-mul (h * 2) q d in
    let is : a + h * 2 * d ≡ (h * 2 + q) * d + r = omega arith in
    ap (λ (x : ℕ). closest x d) is ∙ closest_digits (h * 2 + q) d r L ∙ nearest_shift (compare (r * 2) d) h q

-- ---- M - a / d
-- with a remainder r above 0: q whole parts and r on one side are w whole parts and d - r on the other
other_side : (o p : Ordering) (h q w d r : ℕ) → 0 < r → r < d → q + suc w ≡ h * 2 → Cmp o (r * 2) d → Cmp p ((d - r) * 2) d → nearest w p + nearest q o ≡ h * 2
other_side Ordering.lt Ordering.lt h q w d r R L e x y = absurd (clash d r x y)
  where
    clash : (d r : ℕ) → r * 2 < d → (d - r) * 2 < d → ⊥
    clash d r a b = omega arith
other_side Ordering.lt Ordering.eq h q w d r R L e x y = absurd (clash d r L x y)
  where
    clash : (d r : ℕ) → r < d → r * 2 < d → (d - r) * 2 ≡ d → ⊥
    clash d r l a b = omega arith
other_side Ordering.lt Ordering.gt h q w d r R L e x y = omega arith
other_side Ordering.eq Ordering.lt h q w d r R L e x y = absurd (clash d r L x y)
  where
    clash : (d r : ℕ) → r < d → r * 2 ≡ d → (d - r) * 2 < d → ⊥
    clash d r l a b = omega arith
other_side Ordering.eq Ordering.eq h q w d r R L e x y = omega arith
other_side Ordering.eq Ordering.gt h q w d r R L e x y = absurd (clash d r L x y)
  where
    clash : (d r : ℕ) → r < d → r * 2 ≡ d → d < (d - r) * 2 → ⊥
    clash d r l a b = omega arith
other_side Ordering.gt Ordering.lt h q w d r R L e x y = omega arith
other_side Ordering.gt Ordering.eq h q w d r R L e x y = absurd (clash d r L x y)
  where
    clash : (d r : ℕ) → r < d → d < r * 2 → (d - r) * 2 ≡ d → ⊥
    clash d r l a b = omega arith
other_side Ordering.gt Ordering.gt h q w d r R L e x y = absurd (clash d r L x y)
  where
    clash : (d r : ℕ) → r < d → d < r * 2 → d < (d - r) * 2 → ⊥
    clash d r l a b = omega arith

below_exact : (M q d a : ℕ) → q * d ≡ a → a ≤ M * d → (w : ℕ) → w + q ≡ M → M * d - a ≡ w * d + 0
below_exact M q d a e l w s = let m : w * d + q * d ≡ M * d = sym (add-mul w q d) ∙ ap (λ (x : ℕ). x * d) s in omega arith

below_part : (M q d a r : ℕ) → q * d + r ≡ a → r < d → (w : ℕ) → q + suc w ≡ M → M * d - a ≡ w * d + (d - r)
below_part M q d a r e l w s =
    let m : q * d + suc w * d ≡ M * d = sym (add-mul q (suc w) d) ∙ ap (λ (x : ℕ). x * d) s in
    let n : suc w * d ≡ w * d + d = suc-mul w d in
    omega arith

none : (o : Ordering) (d : ℕ) → 0 < d → Cmp o (0 * 2) d → (w : ℕ) → nearest w o ≡ w
none Ordering.lt d D x w = refl
none Ordering.eq d D x w = absurd (no d D x)
  where
    no : (d : ℕ) → 0 < d → 0 * 2 ≡ d → ⊥
    no d a b = omega arith
none Ordering.gt d D x w = absurd (no d D x)
  where
    no : (d : ℕ) → 0 < d → d < 0 * 2 → ⊥
    no d a b = omega arith

pub closest_below : (h a d : ℕ) → 0 < d → a < h * 2 * d → closest (h * 2 * d - a) d + closest a d ≡ h * 2
closest_below h a d D l = go (eq-zero-or-pos (a % d))
  where
    e : a / d * d + a % d ≡ a
    e = div-add-mod' a d

    q_lt : a / d < h * 2
    q_lt = (native.Mathlib.Nat.div-lt_iff_lt-mul D).1 l

    go : (a % d ≡ 0) ⊎ (0 < a % d) → closest (h * 2 * d - a) d + closest a d ≡ h * 2
    go (inl z) =
        let w = h * 2 - a / d in
        let s : w + a / d ≡ h * 2 = omega (arith, q_lt) in
        let e' : a / d * d ≡ a = omega (arith, e, z) in
        ap (λ (x : ℕ). closest x d + closest a d) (below_exact (h * 2) (a / d) d a e' (native.Mathlib.Nat.le_of_lt l) w s)
        ∙ ap (λ (x : ℕ). x + closest a d) (closest_digits w d 0 D ∙ none (compare (0 * 2) d) d D (cmp (0 * 2) d) w)
        ∙ ap (λ (x : ℕ). w + nearest (a / d) (compare (x * 2) d)) z
        ∙ ap (λ (x : ℕ). w + x) (none (compare (0 * 2) d) d D (cmp (0 * 2) d) (a / d))
        ∙ s
    go (inr p) =
        let q = a / d in
        let r = a % d in
        let L : r < d = mod-lt a D in
        let w = h * 2 - suc q in
        let s : q + suc w ≡ h * 2 = omega (arith, q_lt) in
        let L' : d - r < d = omega arith in
        ap (λ (x : ℕ). closest x d + closest a d) (below_part (h * 2) q d a r e L w s)
        ∙ ap (λ (x : ℕ). x + closest a d) (closest_digits w d (d - r) L')
        ∙ other_side (compare (r * 2) d) (compare ((d - r) * 2) d) h q w d r p L s (cmp (r * 2) d) (cmp ((d - r) * 2) d)
