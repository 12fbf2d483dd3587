-- Whether two lists of bytes are the same.
use Rattle.std.specs.Prelude.{List, Bool, ℕ, ◌-◌, take, drop}
use Rattle.std.specs.Str.{bytes_eq}

-- the elements from place a up to place b
abbrev pub part : ℕ → ℕ → List ℕ → List ℕ
part a b l = take (b - a) (drop a l)

-- two lists are the same, byte by byte: what `==` answers
abbrev pub same : List ℕ → List ℕ → Bool
same = bytes_eq
