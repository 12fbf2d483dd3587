-- A line as it is read.
use Rattle.std.specs.Prelude.{◌≡◌, List, ℕ, suc, ◌<◌, ◌≤◌, Option, Some, None, length, take, get_or}
use Rattle.std.specs.Io.KnownBytes.{Consumes, IsAtEnd}

-- the first n bytes hold no newline
abbrev pub NoNewline : List ℕ → ℕ → Type 0
NoNewline line n = (k : ℕ) → k < n → get_or line k 0 ≡ 10 → ⊥

-- a newline stands after the first n bytes, and the reader gave these and it
pub record Newline (line : List ℕ) (old new : Option (List ℕ)) (n : ℕ) : Type 0 where
  pub inside : n < length line
  pub before : NoNewline line n
  pub newline : get_or line n 0 ≡ 10
  pub read : Consumes old new (take (suc n) line)

-- no newline came: the reader gave n bytes, which fill the slice or are its last ones
pub record Unended (line : List ℕ) (old new : Option (List ℕ)) : Type 0 where
  pub n : ℕ
  pub inside : n ≤ length line
  pub before : NoNewline line n
  pub read : Consumes old new (take n line)
  pub end : n < length line → IsAtEnd new

-- what `read_line` leaves in its slice, and has taken from the reader
abbrev pub LineCame : List ℕ → Option (List ℕ) → Option (List ℕ) → Option ℕ → Type 0
LineCame line old new (Some n) = Newline line old new n
LineCame line old new None = Unended line old new
