-- What the first line stands for, and what is printed of another.
use Rattle.std.specs.Prelude.{List, [], ◌∷◌, ◌++◌, ℕ, None}
use Rattle.std.specs.Float.Ieee.{of_int}
use Rattle.std.specs.Float.{binary64}
use Rattle.reference.specs.Scaling.{db_to_linear}
use Rattle.reference.specs.declared.Settings.{Settings}
use Rattle.text.specs.Text.{text, printed}
use Rattle.level_settings.specs.Settings.{settings_line}
use Rattle.level_settings.specs.declared.LineSettings.{LineSettings}

-- ---- settings

-- the settings that a line's stand for: their gain record is that of the whole decibels, and no filter is given
unfoldable pub read_settings : LineSettings → Settings
read_settings s =
    let db = of_int binary64 s.db in
    record { rate = s.rate; cutoff = s.cutoff; channels = s.channels; gain = record { db = db; linear = db_to_linear db }; filter = None }

-- ---- of settings, or of another first line, which sets nothing

unfoldable pub refused_settings : List ℕ
refused_settings = printed (text "refused settings" ∷ [])

-- ---- what a line sets, and what an input

-- a line of settings, a newline, and what follows
abbrev pub after_line : LineSettings → List ℕ → List ℕ
after_line s rest = settings_line s ++ (10 ∷ rest)
