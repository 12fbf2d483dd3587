-- Columns: entries of a line, each right-aligned with blanks.
use Rattle.std.specs.Prelude.{List, [], ◌∷◌, ◌++◌, map, Bool, false, ◌||◌, ℕ, ◌-◌, ltb, ℤ, Option, Some, None, length, replicate}
use Rattle.text.specs.Text.{text, signed_decimal, printed}

-- an entry of a line: the width of its column, and its text
pub record Cell : Type 0 where
  pub width : ℕ
  pub shown : List ℕ

abbrev pub cell : ℕ → List ℕ → Cell
cell width t = record { width = width; shown = t }

-- right-aligned with blanks; columns may touch
unfoldable pub column : Cell → List ℕ
column e = replicate (e.width - length e.shown) 32 ++ e.shown

-- a line: its columns, and a newline
unfoldable pub line : List Cell → List ℕ
line es = printed (map column es)

-- an entry of the line is too wide for its column
unfoldable pub too_wide : List Cell → Bool
too_wide [] = false
too_wide (e ∷ es) = ltb e.width (length e.shown) || too_wide es

-- lowest or highest; a single hyphen where there are no samples
unfoldable pub level_text : Option ℤ → List ℕ
level_text None = text "-"
level_text (Some z) = signed_decimal z
