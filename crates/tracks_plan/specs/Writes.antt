-- Where a piece's bytes go.
use Rattle.std.specs.Prelude.{List, [], ◌∷◌, cond, min, ltb, ℕ, ◌+◌, ◌-◌, get_or, length}
use Rattle.numbers.specs.Lists.{tabulate}
use Rattle.text.specs.Text.{joined}
use Rattle.tracks_plan.specs.declared.writing.Write.{Write}

-- no bytes
abbrev pub no_write : Write
no_write = record { begin = 0; end = 0; at = 0 }

-- of bytes that stand from `place` on in the album's data, those of the file that has the data from `low` on to `high`
unfoldable pub write_of : ℕ → ℕ → ℕ → ℕ → Write
write_of place bytes low high =
    cond (ltb (low - place) (min bytes (high - place)))
    (record { begin = low - place; end = min bytes (high - place); at = place - low })
    no_write

abbrev pub write_numbers : Write → List ℕ
write_numbers w = w.begin ∷ w.end ∷ w.at ∷ []

-- for file k, which has the data from mark k on to the next
abbrev pub numbers_at : List ℕ → ℕ → ℕ → ℕ → List ℕ
numbers_at marks place bytes k = write_numbers (write_of place bytes (get_or marks k 0) (get_or marks (k + 1) 0))

-- for each file
unfoldable pub writes : List ℕ → ℕ → ℕ → List ℕ
writes marks place bytes = joined (tabulate (numbers_at marks place bytes) 0 (length marks - 1))
