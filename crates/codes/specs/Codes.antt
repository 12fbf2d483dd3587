-- Numbers for C: rates, cutoffs, channels and flags, and a decision as a number with its data.
use Rattle.std.specs.Prelude.{List, [], ◌∷◌, map, Bool, cond, ℕ, eqb, ltb, Float, get_or}
use Rattle.reference.specs.Scaling.{whole}
use Rattle.reference.specs.Codes.{hertz, cutoff_number}
use Rattle.reference.specs.Refusals.{Decision, accepted, refused, Datum, number, rate, cutoff, decibels}
use Rattle.reference.specs.declared.PcmRate.{PcmRate}
use Rattle.reference.specs.declared.PcmRate.TheVariants.{Hz88200, Hz176400, Hz352800}
use Rattle.reference.specs.declared.Cutoff.{Cutoff}
use Rattle.reference.specs.declared.Cutoff.TheVariants.{Standard, Low, Wide}

-- ---- arguments: each number is read as something, and is known if it is the number of what it is read as

unfoldable pub rate_of : ℕ → PcmRate
rate_of n = cond (eqb n 88200) Hz88200 (cond (eqb n 176400) Hz176400 Hz352800)

abbrev pub known_rate : ℕ → Bool
known_rate n = eqb (hertz (rate_of n)) n

unfoldable pub cutoff_of : ℕ → Cutoff
cutoff_of n = cond (eqb n 0) Standard (cond (eqb n 1) Low Wide)

abbrev pub known_cutoff : ℕ → Bool
known_cutoff n = eqb (cutoff_number (cutoff_of n)) n

-- channels are a byte
abbrev pub known_channels : ℕ → Bool
known_channels n = ltb n 256

-- a flag is 0 or 1
abbrev pub known_flag : ℕ → Bool
known_flag n = ltb n 2

abbrev pub flag : ℕ → Bool
flag n = eqb n 1

-- ---- what is told of a decision

-- a datum as a number; decibels, which are told by themselves, are 0
abbrev pub datum_number : Datum → ℕ
datum_number (number n) = n
datum_number (rate r) = hertz r
datum_number (cutoff c) = cutoff_number c
datum_number (decibels db) = 0

abbrev pub carried : Decision → List Datum
carried accepted = []
carried (refused n ds) = ds

-- the first two data; a missing one is 0
abbrev pub data_numbers : Decision → List ℕ
data_numbers d =
    let ns = map datum_number (carried d) in
    get_or ns 0 0 ∷ get_or ns 1 0 ∷ []

-- the decibels that the data begin with, else 0.0
abbrev pub first_decibels : List Datum → Float
first_decibels [] = whole 0
first_decibels (number n ∷ ds) = whole 0
first_decibels (rate r ∷ ds) = whole 0
first_decibels (cutoff c ∷ ds) = whole 0
first_decibels (decibels db ∷ ds) = db

abbrev pub carried_decibels : Decision → Float
carried_decibels d = first_decibels (carried d)
