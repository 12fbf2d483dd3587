-- What a call about an album of tracks is given.
use Rattle.std.specs.Prelude.{List, Bool, ◌&&◌, ℕ, ◌*◌, eqb, leb, length}
use Rattle.reference.specs.declared.Settings.{Settings}
use Rattle.c_converter.specs.Blocks.{CConverter, known_numbers, settings_of}
use Rattle.tracks.specs.Tracks.{Head, heads_of}

-- settings as a converter's record has them, the first 92 bytes of each file end to end, and the files' lengths
pub record Asked : Type 0 where
  pub converter : CConverter
  pub heads : List ℕ
  pub lengths : List ℕ

abbrev pub asked : CConverter → List ℕ → List ℕ → Asked
asked b h l = record { converter = b; heads = h; lengths = l }

-- 1 to 99 tracks
abbrev pub lists_match : List ℕ → List ℕ → Bool
lists_match asked_heads lengths = leb 1 (length lengths) && (leb (length lengths) 99 && eqb (length asked_heads) (92 * length lengths))

abbrev pub asked_known : Asked → Bool
asked_known a = lists_match a.heads a.lengths && known_numbers a.converter.numbers

abbrev pub asked_settings : Asked → Settings
asked_settings a = settings_of a.converter

abbrev pub asked_heads : Asked → List Head
asked_heads a = heads_of a.heads a.lengths
