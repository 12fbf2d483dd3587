-- Document 01's figures at the edges that are marked: rows of one statement, proved in proofs/Figures.
use Rattle.std.specs.Prelude.{◌≡◌, None, List, [], ◌∷◌, map, Bool, true, false, ℕ, ℤ, pos, negsuc, replicate}
use Rattle.reference.specs.Rounding.{R}
use Rattle.reference.specs.Taps.{S1}
use Rattle.reference.specs.Frames.{Run, run}
use Rattle.reference.specs.Stages.{entry}
use Rattle.reference.specs.Scaling.{whole, db_to_linear}
use Rattle.reference.specs.Settings.{converter_of}
use Rattle.reference.specs.Output.{samples, stats}
use Rattle.reference.specs.declared.PcmRate.TheVariants.{Hz88200}
use Rattle.reference.specs.declared.Cutoff.TheVariants.{Standard}
use Rattle.reference.specs.declared.Converter.{Converter}

-- Standard 88,200, mono, 0 dB
unfoldable pub mono : Converter
mono =
    converter_of
    (record { rate = Hz88200; cutoff = Standard; channels = 1; gain = record { db = whole 0; linear = db_to_linear (whole 0) }; filter = None })

-- one frame of a byte, with neighbours of the same, or with none
unfoldable pub one_byte : ℕ → Bool → Run
one_byte b true = run true (replicate 4704 b) (replicate 4704 b) true (replicate 4704 b)
one_byte b false = run false [] (replicate 4704 b) false []

pub data Figure : Type 0 where
  -- R(v, q)
  rounding : ℤ → ℕ → ℤ → Figure
  -- S1 table j, entry b
  table_entry : ℕ → ℕ → ℤ → Figure
  -- a frame of byte b, with or without neighbours: each of the 1,176 samples; no clip
  frame_of : ℕ → Bool → ℤ → Figure

abbrev pub Holds : Figure → Type 0
Holds (rounding v q z) = R v q ≡ z
Holds (table_entry j b z) = entry S1 8 j b ≡ z
Holds (frame_of b there z) = (samples mono (one_byte b there) ≡ replicate 1176 z) × (map (λ c. c.clipped) (stats mono (one_byte b there)).channels ≡ replicate 6 0)

unfoldable pub figures : List Figure
figures =
    rounding (pos 8388608) 24 (pos 0)
    ∷ rounding (pos 8388609) 24 (pos 1)
    ∷ rounding (pos 25165824) 24 (pos 2)
    ∷ rounding (negsuc 8388607) 24 (pos 0)
    ∷ rounding (negsuc 25165823) 24 (negsuc 1)
    ∷ table_entry 4 255 (pos 40349852)
    ∷ table_entry 0 0 (negsuc 92689)
    ∷ table_entry 0 128 (negsuc 92689)
    ∷ table_entry 0 1 (negsuc 8987)
    ∷ frame_of 0x00 true (negsuc 8388607)
    ∷ frame_of 0x69 false (pos 0)
    ∷ []
