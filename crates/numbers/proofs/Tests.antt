-- What a test that holds at every number below n says at each.
use Rattle.std.proofs.Common.{◌≡◌, ⊎_elim, Bool, ℕ, zero, suc, ◌<◌, arith, T}
use lib.Ieee.Fits.{and_l, and_r}
use Rattle.numbers.specs.Tests.{each_below}
use Rattle.numbers.proofs.Lists.{below_or}

pub each_below_at : (f : ℕ → Bool) (n k : ℕ) → T (each_below f n) → k < n → T (f k)
unfolding each_below
each_below_at f zero k h l = absurd (omega arith)
each_below_at f (suc n) k h l =
    ⊎_elim (λ m. each_below_at f n k (and_r (f n) (each_below f n) h) m)
    (λ m. let e : k ≡ n = omega arith in rw e (and_l (f n) (each_below f n) h))
    (below_or k n)
