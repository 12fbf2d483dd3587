-- The lines that the level report prints.
use Rattle.std.specs.Prelude.{List, [], ◌∷◌, ℕ}
use Rattle.text.specs.Text.{text, printed, decimal, signed_decimal}
use Rattle.level_lines.specs.declared.Level.{Level}

-- channel c of frame f
unfoldable pub level_line : ℕ → ℕ → Level → List ℕ
level_line f c level =
    printed
    (text "frame " ∷ decimal f ∷ text " channel " ∷ decimal c ∷ text " clipped " ∷ decimal level.clipped
    ∷ text " low " ∷ signed_decimal level.low ∷ text " high " ∷ signed_decimal level.high ∷ text " over " ∷ decimal level.over ∷ [])

-- the last line: frames, and clips over all of them
unfoldable pub last_line : ℕ → ℕ → List ℕ
last_line frames clips = printed (text "frames " ∷ decimal frames ∷ text " clipped " ∷ decimal clips ∷ [])

-- a refusal by its number
unfoldable pub refused_line : ℕ → List ℕ
refused_line number = printed (text "refused " ∷ decimal number ∷ [])
