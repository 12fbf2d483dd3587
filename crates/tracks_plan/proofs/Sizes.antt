-- Where tracks begin in the album's data.
use Rattle.std.proofs.Common.{ℕ, ◌*◌, ◌≤◌, mul-le-mul, arith}

pub mark_bound : (s n : ℕ) → s ≤ 2540160000 → n ≤ 6 → s * (3 * n) ≤ 45722880000
mark_bound s n a b = let t : 3 * n ≤ 18 = omega arith in mul-le-mul a t
