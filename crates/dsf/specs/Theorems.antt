-- What is proved of headers.
use Rattle.std.specs.Prelude.{◌≡◌, List, ℕ}
use Rattle.reference.specs.Refusals.{decide}
use Rattle.dsf.specs.Dsf.{file_places}
use Rattle.dsf.specs.Reading.{HeadOf, header_places, file_header}

-- what is answered from the first bytes and the length holds of every file that has them. Proved in proofs/Head,
-- `header_right`
abbrev pub HeaderRight : Type 0
HeaderRight =
    (file head : List ℕ) (n : ℕ) → HeadOf file head n
    → (decide (header_places head n) ≡ decide (file_places file)) × (file_header head ≡ file_header file)
