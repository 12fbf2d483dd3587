-- A call from C.
use Rattle.std.specs.Prelude.{◌≡◌, Bool, true, false, ℕ}

-- one whose arguments are understood is done; any other answers 255 and keeps all that is lent
pub record CCall (understood : Bool) (answer : ℕ) (Kept Done : Type 0) : Type 0 where
  pub unclear : understood ≡ false → (answer ≡ 255) × Kept
  pub done : understood ≡ true → Done
