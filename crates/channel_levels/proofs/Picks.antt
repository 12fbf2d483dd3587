-- One number more picked from.
use Rattle.std.proofs.Common.{◌≡◌, refl, ℕ, suc, ◌+◌, zero-add, arith, ℤ}
use Rattle.numbers.specs.Extremes.{picked, extreme}

pub one_more : (pick : ℤ → ℤ → ℤ) (f : ℕ → ℤ) (k : ℕ) {x : ℤ} → x ≡ extreme pick f 0 k → pick x (f k) ≡ extreme pick f 0 (k + 1)
unfolding picked
one_more pick f k e = let n : k + 1 ≡ suc k = omega arith in rw (n, e, zero-add k) refl
