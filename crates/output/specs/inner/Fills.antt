-- What a function that fills a part of a list says of it. Each place has a row and a column; the part is a box of rows
-- and columns.
use Rattle.std.specs.Prelude.{◌≡◌, List, ℕ, ◌+◌, ◌*◌, ◌/◌, ◌%◌, ◌^◌, ◌≤◌, ◌<◌, ℤ, pos, length, get_or}
use Rattle.numbers.specs.Lists.{tabulate}
use Rattle.numbers.specs.inner.Lists.{Written}
use Rattle.reference.specs.Output.{low24}

-- every place of the box holds what the definition D gives, and no place that held it before has lost it
pub record Fills {A : Type 0} (d : A) (D : ℕ → A) (row col : ℕ → ℕ) (lo hi left right : ℕ) (old new : List A) : Type 0 where
  pub same : length new ≡ length old
  pub kept : (i : ℕ) → get_or old i d ≡ D i → get_or new i d ≡ D i
  pub done : (i : ℕ) → lo ≤ row i → row i < hi → left ≤ col i → col i < right → get_or new i d ≡ D i

-- ---- the forms of an output

-- how samples stand in a list: each takes so many places, one for each of its parts; and what a place past the list is
-- read as
pub record Layout (A : Type 0) : Type 0 where
  pub width : ℕ
  pub part : ℤ → ℕ → A
  pub past : A

-- 32-bit numbers: a sample is its own only part
abbrev pub items : Layout ℤ
items = record { width = 1; part = λ z b. z; past = pos 0 }

-- byte b of the three of a number, least first
unfoldable pub byte_of_three : ℤ → ℕ → ℕ
byte_of_three z b = low24 z / 256 ^ b % 256

abbrev pub byte_layout : Layout ℕ
byte_layout = record { width = 3; part = byte_of_three; past = 0 }

module _ {A : Type 0} (o : Layout A) where
  -- the places of item k hold the sample z
  abbrev pub Put : ℕ → ℤ → List A → List A → Type 0
  Put k z old new = Written o.past (λ b. o.width * k + b) (o.part z) o.width old new

  -- place j is part j % width of item j / width; item i is sample i / ch of channel i % ch; S c n is sample n of
  -- channel c
  abbrev pub place_of : ℕ → (ℕ → ℕ → ℤ) → ℕ → A
  place_of ch S j = o.part (S (j / o.width % ch) (j / o.width / ch)) (j % o.width)

  -- a box of samples
  abbrev pub Drawn : (ℕ → ℕ → ℤ) → ℕ → ℕ → ℕ → ℕ → ℕ → List A → List A → Type 0
  Drawn S ch lo hi left right old new = Fills o.past (place_of ch S) (λ j. j / o.width / ch) (λ j. j / o.width % ch) lo hi left right old new

  -- a list has room for n samples
  abbrev pub Room : ℕ → List A → Type 0
  Room n out = length out ≡ o.width * n

  -- samples in this form
  unfoldable pub parts_of : List ℤ → List A
  parts_of zs = tabulate (λ j. o.part (get_or zs (j / o.width) (pos 0)) (j % o.width)) 0 (o.width * length zs)
