-- The code's windows.
use Rattle.std.proofs.Common.{◌≡◌, ◌∙◌, ap, List, ℕ, ◌+◌, ◌*◌, ◌<◌, ◌≤◌, mul-le-mul_left, arith, ℤ, length, get_or, take, drop, length-drop, length-take-le}
use Rattle.std.proofs.Common.{get_or-take, get_or-drop}
use Rattle.numbers.specs.Sums.{sum_to, at0}
use Rattle.numbers.proofs.Sums.{sum_same}
use Rattle.first_stage.specs.inner.Windows.{window_sum}

-- of a part of the bytes
pub window_is : (tables : List ℤ) (half : ℕ) (bytes : List ℕ) (at : ℕ) (part : List ℕ) → part ≡ take (2 * half) (drop at bytes) → at + 2 * half ≤ length bytes
    → sum_to (length part) (λ j. at0 tables (256 * j + get_or part j 0)) ≡ window_sum tables half bytes at
unfolding window_sum
window_is tables half bytes at part e l =
    let n : length part ≡ 2 * half = ap length e ∙ length-take-le (2 * half) (drop at bytes) (omega (arith, length-drop at bytes)) in
    rw n (sum_same (2 * half) _ _ (λ j m. ap (λ b. at0 tables (256 * j + b)) (ap (λ z. get_or z j 0) e ∙ get_or-take (2 * half) (drop at bytes) j 0 m ∙ get_or-drop at bytes j 0)))

-- place k's window ends no later than the last one's
pub not_later : (step k n : ℕ) → k < n → step * k + step ≤ step * n
not_later step k n l = omega (arith, mul-le-mul_left {m = k + 1} {n = n} step (omega arith))
