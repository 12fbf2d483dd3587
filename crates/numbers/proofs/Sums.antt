-- Laws of finite sums over ℤ.
use Rattle.std.proofs.Common.{◌≡◌, refl, sym, ◌∙◌, ap, ap₂, ℕ, zero, suc, ◌+◌, ◌*◌, ◌<◌, ◌≤◌, add-zero, add-suc, zero-mul, suc-mul, mul-le-mul_left, arith, ℤ}
use Rattle.std.proofs.Common.{pos, nat_abs, ◌+ℤ◌, ◌*ℤ◌}
use lib.IntN.{+ℤ_comm, +ℤ_assoc, +ℤ_idr}
use Rattle.numbers.specs.Sums.{sum_to}
use Rattle.numbers.specs.Lists.{total}
use Rattle.numbers.proofs.Integers.{abs_add, abs_mul}

pub sum_same : (n : ℕ) (f g : ℕ → ℤ) → ((k : ℕ) → k < n → f k ≡ g k) → sum_to n f ≡ sum_to n g
unfolding sum_to
sum_same zero f g h = refl
sum_same (suc n) f g h = ap₂ (λ (a b : ℤ). a +ℤ b) (sum_same n f g (λ k l. h k (omega arith))) (h n (omega arith))

pub sum_head : (n : ℕ) (f : ℕ → ℤ) → sum_to (suc n) f ≡ f 0 +ℤ sum_to n (λ k. f (suc k))
unfolding sum_to
sum_head zero f = +ℤ_comm (pos 0) (f 0)
sum_head (suc n) f = ap (λ (z : ℤ). z +ℤ f (suc n)) (sum_head n f) ∙ +ℤ_assoc (f 0) (sum_to n (λ k. f (suc k))) (f (suc n))

pub sum_join : (a b : ℕ) (f : ℕ → ℤ) → sum_to (a + b) f ≡ sum_to a f +ℤ sum_to b (λ k. f (a + k))
unfolding sum_to
sum_join a zero f = ap (λ (n : ℕ). sum_to n f) (add-zero a) ∙ sym (+ℤ_idr (sum_to a f))
sum_join a (suc b) f =
    ap (λ (n : ℕ). sum_to n f) (add-suc a b) ∙ ap (λ (z : ℤ). z +ℤ f (a + b)) (sum_join a b f) ∙ +ℤ_assoc (sum_to a f) (sum_to b (λ k. f (a + k))) (f (a + b))

-- a sum in n blocks of m
pub sum_blocks : (m n : ℕ) (f : ℕ → ℤ) → sum_to (n * m) f ≡ sum_to n (λ j. sum_to m (λ p. f (j * m + p)))
unfolding sum_to
sum_blocks m zero f = ap (λ (n : ℕ). sum_to n f) (zero-mul m)
sum_blocks m (suc n) f =
    ap (λ (k : ℕ). sum_to k f) (suc-mul n m) ∙ sum_join (n * m) m f ∙ ap (λ (z : ℤ). z +ℤ sum_to m (λ p. f (n * m + p))) (sum_blocks m n f)

-- factors h on values of size at most B: the factors' sizes added up, times B
pub sum_size : (n : ℕ) (h x : ℕ → ℤ) (B : ℕ) → ((k : ℕ) → k < n → nat_abs (x k) ≤ B) → nat_abs (sum_to n (λ k. h k *ℤ x k)) ≤ total (λ k. nat_abs (h k)) 0 n * B
unfolding sum_to total
sum_size zero h x B b = omega arith
sum_size (suc n) h x B b =
    let i : 0 + n ≡ n = omega arith in
    rw i (omega (arith, abs_add (sum_to n (λ k. h k *ℤ x k)) (h n *ℤ x n), sum_size n h x B (λ k l. b k (omega arith)), abs_mul (h n) (x n), mul-le-mul_left (nat_abs (h n)) (b n (omega arith))))
