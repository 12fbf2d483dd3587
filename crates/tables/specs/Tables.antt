-- Module 2: B byte tables of 256 numbers, one after the other, are those of the taps h.
use Rattle.std.specs.Prelude.{◌≡◌, List, ℕ, ◌*◌, ◌/◌, ◌%◌, ◌<◌, ℤ, length}
use Rattle.numbers.specs.Sums.{at0}
use Rattle.reference.specs.Stages.{entry}

pub record ByteTables (h : List ℤ) (B : ℕ) (t : List ℤ) : Type 0 where
  pub long : length t ≡ 256 * B
  pub rule : (k : ℕ) → k < 256 * B → at0 t k ≡ entry h B (k / 256) (k % 256)
