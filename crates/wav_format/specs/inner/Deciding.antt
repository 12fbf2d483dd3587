-- How the reader finds rate and channels, to compare the header with theirs. No promise speaks of it.
use Rattle.std.specs.Prelude.{cond, ℕ, eqb}
use Rattle.reference.specs.declared.PcmRate.{PcmRate}
use Rattle.reference.specs.declared.PcmRate.TheVariants.{Hz88200, Hz176400, Hz352800}

-- by byte 24, the rate's lowest
unfoldable pub rate_of_byte : ℕ → PcmRate
rate_of_byte x = cond (eqb x 136) Hz88200 (cond (eqb x 16) Hz176400 Hz352800)

-- by byte 22
unfoldable pub channels_of : ℕ → ℕ
channels_of x = cond (eqb x 1) 1 2
