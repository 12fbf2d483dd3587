-- How it is decided whether a beginning has an accepted continuation; no part of a promise.
use Rattle.std.specs.Prelude.{List, [], ◌∷◌, Bool, ◌&&◌, ◌||◌, ℕ, ◌+◌, ◌%◌, eqb, ltb, leb, length}
use Rattle.text.specs.Bytes.{bytes}
use Rattle.dsf.specs.Dsf.{fixed, layout, frequency, all, fits, stated_length, sample_count, needed}

-- the reader's tests on the first bytes of a beginning of n bytes: fields as far as it goes, absent bytes of the sample
-- count 0, the stated length once it is there
unfoldable pub head_hopeful : List ℕ → ℕ → Bool
head_hopeful head n =
    all (fits head) layout
    && (all (fits head) (frequency ∷ fixed 84 (bytes 8 (12 + needed head)) ∷ [])
    && (eqb (sample_count head % 8) 0
    && (ltb n 20 || leb (92 + needed head) (stated_length head) && leb n (stated_length head))))

unfoldable pub hopeful : List ℕ → Bool
hopeful p = head_hopeful p (length p)
