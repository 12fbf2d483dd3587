-- ℤ by its two parts in ℕ: z is pp z − nn z, and one of the two is 0. An equation or a bound in ℤ is one in ℕ, where
-- `omega` reads it.
use Rattle.std.proofs.Common.{◌≡◌, refl, sym, ◌∙◌, ap, Bool, true, false, cond, not, ℕ, zero, suc, ◌+◌, ◌*◌, ◌-◌, ◌<◌, ◌≤◌, ◌^◌, lt_of_le_of_lt, arith, T, ltb}
use Rattle.std.proofs.Common.{ltb→lt, nltb→le, ℤ, pos, negsuc, neg_ℤ, nat_abs, ◌+ℤ◌, ◌*ℤ◌, SFits}
use lib.IntN.{sub_ℕ, +ℤ_comm, +ℤ_assoc, *ℤ_comm}
use lib.Signed.{mag}
use mir.Syntax.{Width}
use mir.Val.{hbits}

abbrev pub pp : ℤ → ℕ
pp (pos n) = n
pp (negsuc n) = 0

abbrev pub nn : ℤ → ℕ
nn (pos n) = 0
nn (negsuc n) = suc n

-- two numbers are equal by their parts
pub zext : (x y : ℤ) → pp x + nn y ≡ pp y + nn x → x ≡ y
zext (pos a) (pos b) h = ap pos (omega arith)
zext (pos a) (negsuc b) h = absurd (omega arith)
zext (negsuc a) (pos b) h = absurd (omega arith)
zext (negsuc a) (negsuc b) h = ap negsuc (omega arith)

sub_go : (a b : ℕ) (t : Bool) → (T t → a < b) → (T (not t) → b ≤ a)
    → pp (cond t (negsuc (b - suc a)) (pos (a - b))) + b ≡ nn (cond t (negsuc (b - suc a)) (pos (a - b))) + a
sub_go a b true f g = let h : a < b = f tt in omega arith
sub_go a b false f g = let h : b ≤ a = g tt in omega arith

sub_parts : (a b : ℕ) → pp (sub_ℕ a b) + b ≡ nn (sub_ℕ a b) + a
sub_parts a b = sub_go a b (ltb a b) (ltb→lt a b) (nltb→le a b)

pub add_parts : (x y : ℤ) → pp (x +ℤ y) + (nn x + nn y) ≡ nn (x +ℤ y) + (pp x + pp y)
add_parts (pos a) (pos b) = omega arith
add_parts (pos a) (negsuc b) = omega (arith, sub_parts a (suc b))
add_parts (negsuc a) (pos b) = omega (arith, sub_parts b (suc a))
add_parts (negsuc a) (negsuc b) = omega arith

pub pp_neg : (x : ℤ) → pp (neg_ℤ x) ≡ nn x
pp_neg (pos zero) = refl
pp_neg (pos (suc n)) = refl
pp_neg (negsuc n) = refl

pub nn_neg : (x : ℤ) → nn (neg_ℤ x) ≡ pp x
nn_neg (pos zero) = refl
nn_neg (pos (suc n)) = refl
nn_neg (negsuc n) = refl

pub mul_parts : (x y : ℤ) → pp (x *ℤ y) + (pp x * nn y + nn x * pp y) ≡ nn (x *ℤ y) + (pp x * pp y + nn x * nn y)
mul_parts (pos a) (pos b) = omega arith
mul_parts (pos a) (negsuc b) = omega (arith, pp_neg (pos (a * suc b)), nn_neg (pos (a * suc b)))
mul_parts (negsuc a) (pos b) = omega (arith, pp_neg (pos (suc a * b)), nn_neg (pos (suc a * b)))
mul_parts (negsuc a) (negsuc b) = omega arith

-- the size: |z| is pp z + nn z
pub abs_parts : (x : ℤ) → nat_abs x ≡ pp x + nn x
abs_parts (pos a) = omega arith
abs_parts (negsuc a) = omega arith

sub_abs_go : (a b : ℕ) (t : Bool) → (T t → a < b) → (T (not t) → b ≤ a)
    → nat_abs (cond t (negsuc (b - suc a)) (pos (a - b))) ≤ a + b
sub_abs_go a b true f g = let h : a < b = f tt in omega arith
sub_abs_go a b false f g = let h : b ≤ a = g tt in omega arith

sub_abs : (a b : ℕ) → nat_abs (sub_ℕ a b) ≤ a + b
sub_abs a b = sub_abs_go a b (ltb a b) (ltb→lt a b) (nltb→le a b)

pub abs_add : (x y : ℤ) → nat_abs (x +ℤ y) ≤ nat_abs x + nat_abs y
abs_add (pos a) (pos b) = omega arith
abs_add (pos a) (negsuc b) = sub_abs a (suc b)
abs_add (negsuc a) (pos b) = omega (arith, sub_abs b (suc a))
abs_add (negsuc a) (negsuc b) = omega arith

pub abs_neg : (x : ℤ) → nat_abs (neg_ℤ x) ≡ nat_abs x
abs_neg (pos zero) = refl
abs_neg (pos (suc n)) = refl
abs_neg (negsuc n) = refl

pub abs_mul : (x y : ℤ) → nat_abs (x *ℤ y) ≡ nat_abs x * nat_abs y
abs_mul (pos a) (pos b) = refl
abs_mul (pos a) (negsuc b) = abs_neg (pos (a * suc b))
abs_mul (negsuc a) (pos b) = abs_neg (pos (suc a * b))
abs_mul (negsuc a) (negsuc b) = refl

mag_abs : (x : ℤ) → mag x ≤ nat_abs x
mag_abs (pos a) = omega arith
mag_abs (negsuc a) = omega arith

-- a number fits by its size
pub sfits_abs : {w : Width} {z : ℤ} → nat_abs z < 2 ^ hbits w → SFits w z
sfits_abs {w} {z} h = record { sfits = lt_of_le_of_lt (mag_abs z) h }

-- ---- the ring's laws that `lib.IntN` lacks
pub +ℤ-left-comm : (x y z : ℤ) → x +ℤ (y +ℤ z) ≡ y +ℤ (x +ℤ z)
+ℤ-left-comm x y z = sym (+ℤ_assoc x y z) ∙ ap (λ (k : ℤ). k +ℤ z) (+ℤ_comm x y) ∙ +ℤ_assoc y x z

pub mul_add : (x y z : ℤ) → x *ℤ (y +ℤ z) ≡ x *ℤ y +ℤ x *ℤ z
mul_add x y z =
    zext _ _
    (omega
    (arith, mul_parts x (y +ℤ z), mul_parts x y, mul_parts x z, add_parts (x *ℤ y) (x *ℤ z), ap (λ (k : ℕ). pp x * k) (add_parts y z), ap (λ (k : ℕ). nn x * k) (add_parts y z)))

pub add_mul : (x y z : ℤ) → (x +ℤ y) *ℤ z ≡ x *ℤ z +ℤ y *ℤ z
add_mul x y z = simp (*ℤ_comm (x +ℤ y) z, *ℤ_comm x z, *ℤ_comm y z, mul_add)

pub *ℤ-assoc : (x y z : ℤ) → x *ℤ y *ℤ z ≡ x *ℤ (y *ℤ z)
*ℤ-assoc x y z =
    zext _ _
    (omega (
      arith,
      mul_parts (x *ℤ y) z,
      mul_parts x (y *ℤ z),
      ap (λ (k : ℕ). k * pp z) (mul_parts x y),
      ap (λ (k : ℕ). k * nn z) (mul_parts x y),
      ap (λ (k : ℕ). pp x * k) (mul_parts y z),
      ap (λ (k : ℕ). nn x * k) (mul_parts y z),
    ))

pub neg_mul : (x y : ℤ) → neg_ℤ x *ℤ y ≡ neg_ℤ (x *ℤ y)
neg_mul x y =
    zext _ _
    (omega (
      arith,
      mul_parts (neg_ℤ x) y,
      mul_parts x y,
      pp_neg (x *ℤ y),
      nn_neg (x *ℤ y),
      ap (λ (k : ℕ). k * pp y) (pp_neg x),
      ap (λ (k : ℕ). k * pp y) (nn_neg x),
      ap (λ (k : ℕ). k * nn y) (pp_neg x),
      ap (λ (k : ℕ). k * nn y) (nn_neg x),
    ))

-- sums sorted alike on both sides
pub ruleset sums = (+ℤ_assoc, +ℤ_comm, +ℤ-left-comm, mul_add)
