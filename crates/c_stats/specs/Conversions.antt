-- What a conversion tells beside its output. A primed list is one at exit.
use Rattle.std.specs.Prelude.{◌≡◌, List, ℕ, Float}
use Rattle.reference.specs.Frames.{Run}
use Rattle.reference.specs.Output.{stats}
use Rattle.reference.specs.Refusals.{Decision}
use Rattle.reference.specs.Promises.{by_decision}
use Rattle.reference.specs.declared.Converter.{Converter}
use Rattle.codes.specs.Told.{ToldWhole}
use Rattle.c_stats.specs.Stats.{stat_numbers}

-- the lists lent for it
pub record Results : Type 0 where
  pub stats : List ℕ
  pub «data» : List ℕ
  pub decibels : List Float

abbrev pub results : List ℕ → List ℕ → List Float → Results
results s d f = record { stats = s; «data» = d; decibels = f }

-- d is what it decides; the statistics are written if it is accepted
pub record ConversionDone (d : Decision) (conv : Converter) (r : Run) (old new : Results) (answer : ℕ) : Type 0 where
  pub told : ToldWhole d answer new.«data» new.decibels
  pub counted : new.stats ≡ by_decision d (stat_numbers (stats conv r)) old.stats
