-- A neighbour's length.
use Rattle.std.specs.Prelude.{Option, Some, None, List, cond, ℕ, eqb, length}

-- that of a neighbour which is there, and is not as long as a frame
unfoldable pub wrong_length : ℕ → Option (List ℕ) → Option ℕ
wrong_length size None = None
wrong_length size (Some bytes) = cond (eqb (length bytes) size) None (Some (length bytes))
