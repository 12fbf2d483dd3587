-- Numbers read as a rate and as a cutoff.
use Rattle.std.specs.Prelude.{Result, Ok, Err, cond, ℕ, eqb}
use Rattle.reference.specs.declared.PcmRate.{PcmRate}
use Rattle.reference.specs.declared.PcmRate.TheVariants.{Hz88200, Hz176400, Hz352800}
use Rattle.reference.specs.declared.Cutoff.{Cutoff}
use Rattle.reference.specs.declared.Cutoff.TheVariants.{Standard, Low, Wide}
use Rattle.reference.specs.declared.codes.UnknownRate.{UnknownRate}
use Rattle.reference.specs.declared.codes.UnknownCutoff.{UnknownCutoff}

unfoldable pub rate_from : ℕ → Result PcmRate UnknownRate
rate_from n = cond (eqb n 88200) (Ok Hz88200) (cond (eqb n 176400) (Ok Hz176400) (cond (eqb n 352800) (Ok Hz352800) (Err (record { 0 = n }))))

unfoldable pub cutoff_from : ℕ → Result Cutoff UnknownCutoff
cutoff_from n = cond (eqb n 0) (Ok Standard) (cond (eqb n 1) (Ok Low) (cond (eqb n 2) (Ok Wide) (Err (record { 0 = n }))))
