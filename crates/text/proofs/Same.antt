-- Equal lists as a test.
use Rattle.std.proofs.Common.{◌≡◌, refl, sym, ap₂, ◌∙◌, List, [], ◌∷◌, Bool, true, false, ◌&&◌, true≢false, ℕ, eqb-true, eq-eqb, eqb}
use Rattle.text.specs.Lists.{same}

pub and_left : (a b : Bool) → a && b ≡ true → a ≡ true
and_left true b e = refl
and_left false b e = e

pub and_right : (a b : Bool) → a && b ≡ true → b ≡ true
and_right true b e = e
and_right false b e = absurd (true≢false (sym e))

pub and_both : (a b : Bool) → a ≡ true → b ≡ true → a && b ≡ true
and_both a b e f = rw (e, f) refl

pub and_not : (a b : Bool) → a ≡ false → a && b ≡ false
and_not a b e = rw e refl

pub and_false : (a b : Bool) → b ≡ false → a && b ≡ false
and_false true b e = e
and_false false b e = refl

pub no_true : {A : Type 0} (a : Bool) → a ≡ true → a ≡ false → A
no_true a e f = absurd (true≢false (sym e ∙ f))

pub same_self : (xs : List ℕ) → same xs xs ≡ true
same_self [] = refl
same_self (x ∷ xs) = and_both (eqb x x) (same xs xs) (eq-eqb x x refl) (same_self xs)

pub same_is : (xs ys : List ℕ) → same xs ys ≡ true → xs ≡ ys
same_is [] [] e = refl
same_is [] (y ∷ ys) e = absurd (true≢false (sym e))
same_is (x ∷ xs) [] e = absurd (true≢false (sym e))
same_is (x ∷ xs) (y ∷ ys) e = ap₂ (λ (a : ℕ) (l : List ℕ). a ∷ l) (eqb-true x y (and_left _ _ e)) (same_is xs ys (and_right (eqb x y) _ e))
