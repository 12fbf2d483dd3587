-- Rates and cutoffs as numbers.
use Rattle.std.specs.Prelude.{ℕ}
use Rattle.reference.specs.declared.PcmRate.{PcmRate}
use Rattle.reference.specs.declared.PcmRate.TheVariants.{Hz88200, Hz176400, Hz352800}
use Rattle.reference.specs.declared.Cutoff.{Cutoff}
use Rattle.reference.specs.declared.Cutoff.TheVariants.{Standard, Low, Wide}

-- a rate's number is its hertz
abbrev pub hertz : PcmRate → ℕ
hertz Hz88200 = 88200
hertz Hz176400 = 176400
hertz Hz352800 = 352800

abbrev pub cutoff_number : Cutoff → ℕ
cutoff_number Standard = 0
cutoff_number Low = 1
cutoff_number Wide = 2
