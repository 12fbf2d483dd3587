-- Words of the first line: the rate and the cutoff that they name.
use Rattle.std.specs.Prelude.{List, ℕ, Option, Some, None, cond}
use Rattle.std.specs.Str.{bytes_eq}
use Rattle.reference.specs.declared.PcmRate.{PcmRate}
use Rattle.reference.specs.declared.PcmRate.TheVariants.{Hz88200, Hz176400, Hz352800}
use Rattle.reference.specs.declared.Cutoff.{Cutoff}
use Rattle.reference.specs.declared.Cutoff.TheVariants.{Standard, Low, Wide}
use Rattle.level_settings.specs.Settings.{rate_text, cutoff_text}

-- the rate that a word names, if it names one
unfoldable pub rate_named : List ℕ → Option PcmRate
rate_named w =
    cond (bytes_eq w (rate_text Hz88200)) (Some Hz88200)
    (cond (bytes_eq w (rate_text Hz176400)) (Some Hz176400)
    (cond (bytes_eq w (rate_text Hz352800)) (Some Hz352800) None))

-- the cutoff
unfoldable pub cutoff_named : List ℕ → Option Cutoff
cutoff_named w =
    cond (bytes_eq w (cutoff_text Standard)) (Some Standard)
    (cond (bytes_eq w (cutoff_text Low)) (Some Low)
    (cond (bytes_eq w (cutoff_text Wide)) (Some Wide) None))
