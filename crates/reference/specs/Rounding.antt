-- Module 1, rounding: R(v, q), the whole number nearest v / 2^q, ties to even.
use Rattle.std.specs.Prelude.{◌≡◌, cond, ℕ, suc, ◌+◌, ◌-◌, ◌/◌, ◌%◌, ◌^◌, ◌≤◌, eqb, ltb, ℤ, pos, negsuc, nat_abs, ◌+ℤ◌, ◌-ℤ◌, ◌*ℤ◌}
use Rattle.std.specs.Int.Signed.{shr_z}

-- how far v is above d times the floor of v / d
unfoldable pub rest : ℤ → ℕ → ℕ
rest (pos n) d = n % d
rest (negsuc n) d = d - suc (n % d)

-- z or z + 1, whichever is nearer, `down` and `up` being the ways there; of two equally near the even one
unfoldable pub nearer : ℤ → ℕ → ℕ → ℤ
nearer z down up = cond (ltb down up) z (cond (ltb up down) (z +ℤ pos 1) (cond (eqb (nat_abs z % 2) 0) z (z +ℤ pos 1)))

-- `shr_z v d` is the floor of v / d
unfoldable pub R : ℤ → ℕ → ℤ
R v q = nearer (shr_z v (2 ^ q)) (rest v (2 ^ q)) (2 ^ q - rest v (2 ^ q))

-- k, the lowest kept bit: that of the floor
unfoldable pub lowest_kept : ℤ → ℕ → ℕ
lowest_kept v d = nat_abs (shr_z v d) % 2

-- request 3: the floor of v / 2^q plus that of (r + 2^(q - 1) - 1 + k) / 2^q. For every v and every q from 1 up this
-- sum is R(v, q): proofs/Rounding
unfoldable pub one_sum : ℤ → ℕ → ℤ
one_sum v q = shr_z v (2 ^ q) +ℤ pos ((rest v (2 ^ q) + 2 ^ (q - 1) - 1 + lowest_kept v (2 ^ q)) / 2 ^ q)

-- how far v is from z × 2^q
abbrev pub distance : ℤ → ℕ → ℤ → ℕ
distance v q z = nat_abs (v -ℤ z *ℤ pos (2 ^ q))

-- z is nearest v / 2^q, and even where another is as near. R(v, q) is so, and no other number: proofs/Rounding
pub record NearestEven (v : ℤ) (q : ℕ) (z : ℤ) : Type 0 where
  pub nearest : (other : ℤ) → distance v q z ≤ distance v q other
  pub even : (other : ℤ) → distance v q other ≡ distance v q z → (other ≡ z → ⊥) → nat_abs z % 2 ≡ 0
