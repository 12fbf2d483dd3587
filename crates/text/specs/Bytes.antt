-- Bytes, and numbers as bytes.
use Rattle.std.specs.Prelude.{List, [], ◌∷◌, ℕ, zero, suc, ◌+◌, ◌*◌, ◌/◌, ◌%◌, ◌<◌, get_or, take, drop}

-- a list of bytes
pub record Bytes (l : List ℕ) : Type 0 where
  pub each : (i : ℕ) → get_or l i 0 < 256

-- ---- numbers, lowest byte first

unfoldable pub number_of : List ℕ → ℕ
number_of [] = 0
number_of (x ∷ xs) = x + 256 * number_of xs

-- the number in so many bytes of a list from a place on; a byte past the end counts as 0
unfoldable pub number_at : List ℕ → ℕ → ℕ → ℕ
number_at l start size = number_of (take size (drop start l))

-- a number as so many bytes
unfoldable pub bytes : ℕ → ℕ → List ℕ
bytes zero n = []
bytes (suc size) n = n % 256 ∷ bytes size (n / 256)
