-- What reading a number promises.
use Rattle.std.specs.Prelude.{◌≡◌, List, ℕ, ◌<◌, Option, Some}
use Rattle.text.specs.Text.{decimal}

-- the number below 1000 that a text is, if it is one
pub record NumberRead (t : List ℕ) (r : Option ℕ) : Type 0 where
  pub takes : (n : ℕ) → n < 1000 → t ≡ decimal n → r ≡ Some n
  pub takes_only : (n : ℕ) → r ≡ Some n → (n < 1000) × (t ≡ decimal n)
