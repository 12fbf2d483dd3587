-- `closest a b` of the kit is what its name says: the whole number nearest a / b, ties to even.
use Rattle.std.proofs.Common.{◌≡◌, refl, ap, subst, Bool, true, false, not, ◌⊎◌, inl, inr, ℕ, zero, suc, ◌+◌, ◌*◌, ◌/◌, ◌%◌, ◌≤◌, ◌<◌, mod-lt, div-add-mod'}
use Rattle.std.proofs.Common.{eq-or-lt_of_le, mul-le-mul_right, arith, T, leb, leb→le}
use Prim.Native.Nat.{compare, Ordering}
use lib.Dec.{nleb→lt}
use lib.Ieee.{nearest}
use lib.Ieee.Nearest.{closest}
use Rattle.floats.proofs.Closest.{Cmp, cmp}

-- c is within half of a / b; where a / b is halfway between two whole numbers, c is even
pub record IsClosest (a b c : ℕ) : Type 0 where
  pub not_below : a * 2 ≤ (c * 2 + 1) * b
  pub not_above : c * 2 * b ≤ a * 2 + b
  pub even_at_a_tie : (q : ℕ) → a * 2 ≡ (q * 2 + 1) * b → c % 2 ≡ 0

one_tie : (w q b r : ℕ) → r < b → (w * b + r) * 2 ≡ (q * 2 + 1) * b → r * 2 ≡ b
one_tie w q b r L e = go (leb q w) (leb→le q w) (nleb→lt q w)
  where
    less : (q ≡ w) ⊎ (q < w) → r * 2 ≡ b
    less (inl p) = let m : q * b ≡ w * b = ap (λ (x : ℕ). x * b) p in omega arith
    less (inr l) = let m : suc q * b ≤ w * b = mul-le-mul_right b l in omega arith

    go : (t : Bool) → (T t → q ≤ w) → (T (not t) → w < q) → r * 2 ≡ b
    go true h k = less (eq-or-lt_of_le (h tt))
    go false h k = let m : suc w * b ≤ q * b = mul-le-mul_right b (k tt) in omega arith

by_order : (o : Ordering) (w b r : ℕ) → r < b → Cmp o (r * 2) b → IsClosest (w * b + r) b (nearest w o)
by_order Ordering.lt w b r L x = record { not_below = omega arith; not_above = omega arith; even_at_a_tie = λ q e. let t : r * 2 ≡ b = one_tie w q b r L e in omega arith }
by_order Ordering.eq w b r L x = go (w % 2) refl
  where
    go : (p : ℕ) → w % 2 ≡ p → IsClosest (w * b + r) b (w + p)
    go zero e = record { not_below = omega arith; not_above = omega arith; even_at_a_tie = λ q t. omega arith }
    go (suc zero) e = record { not_below = omega arith; not_above = omega arith; even_at_a_tie = λ q t. omega arith }
    go (suc (suc p)) e = absurd (no p e)
      where
        no : (p : ℕ) → w % 2 ≡ suc (suc p) → ⊥
        no p e = omega arith
by_order Ordering.gt w b r L x = record { not_below = omega arith; not_above = omega arith; even_at_a_tie = λ q e. let t : r * 2 ≡ b = one_tie w q b r L e in omega arith }

pub closest_is : (a b : ℕ) → 0 < b → IsClosest a b (closest a b)
closest_is a b B = subst (λ (x : ℕ). IsClosest x b (closest a b)) (div-add-mod' a b) (by_order (compare (a % b * 2) b) (a / b) b (a % b) (mod-lt a B) (cmp (a % b * 2) b))
