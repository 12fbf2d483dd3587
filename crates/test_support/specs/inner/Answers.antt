-- What the programs that compare go by: a decision as numbers, stored numbers, a sequence of bytes.
use Rattle.std.specs.Prelude.{Result, List, [], ◌∷◌, map, cond, Option, Some, None, ℕ, ◌+◌, ◌-◌, ◌*◌, ◌%◌, ◌^◌, ltb, get_or}
use Rattle.std.specs.Float.{binary64}
use Rattle.std.specs.Float.Ieee.{to_bits}
use Rattle.reference.specs.Refusals.{Decision, refusal_number, Datum, decibels}
use Rattle.reference.specs.Promises.{stats_told}
use Rattle.reference.specs.Statistics.{channel_of}
use Rattle.reference.specs.declared.ConvertStats.{ConvertStats}
use Rattle.reference.specs.declared.PcmError.{PcmError}
use Rattle.codes.specs.Codes as codes
use Rattle.codes.specs.Codes.{carried}
use Rattle.test_support.specs.declared.answers.Told.{Told}

-- a datum as a number, as C is told it; but decibels by their bits
abbrev pub datum_number : Datum → ℕ
datum_number (decibels db) = to_bits binary64 db
datum_number d = codes.datum_number d

-- number and data of a decision; what is missing is 0
abbrev pub told : Decision → Told
told d =
    let ns = map datum_number (carried d) in
    record { number = refusal_number d; first = get_or ns 0 0; second = get_or ns 1 0 }

-- the clips of channel c, none where a conversion is refused
abbrev pub clips_of : Result ConvertStats PcmError → ℕ → ℕ
clips_of done c = (channel_of (stats_told done) c).clipped

-- what a hexadecimal digit stands for, in small letters
unfoldable pub digit : ℕ → Option ℕ
digit b = cond (ltb b 48) None (cond (ltb b 58) (Some (b - 48)) (cond (ltb b 97) None (cond (ltb b 103) (Some (b - 87)) None)))

-- one of two, by whether a byte is a digit
abbrev pub by_digit : Option ℕ → (ℕ → List ℕ) → List ℕ → List ℕ
by_digit (Some d) more ended = more d
by_digit None more ended = ended

-- the numbers that end in a text, behind digits that stand for n: each byte that is no digit ends one, and of more than
-- sixteen digits the last sixteen count
unfoldable pub numbers_behind : ℕ → List ℕ → List ℕ
numbers_behind n [] = []
numbers_behind n (b ∷ bs) = by_digit (digit b) (λ d. numbers_behind (n % 2 ^ 60 * 16 + d) bs) (n ∷ numbers_behind 0 bs)

-- the number of the sequence below 2^32 that follows x
abbrev pub following : ℕ → ℕ
following x = (x % 4294967296 * 1664525 + 1013904223) % 4294967296

-- what a digest makes of bytes, from h on
unfoldable pub digest_on : ℕ → List ℕ → ℕ
digest_on h [] = h
digest_on h (b ∷ bs) = digest_on ((h % 4294967291 * 1664525 + b + 1) % 4294967291) bs
