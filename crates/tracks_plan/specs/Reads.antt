-- What is read for some frames.
use Rattle.std.specs.Prelude.{List, [], ◌∷◌, ℕ, ◌+◌}
use Rattle.tracks.specs.Tracks.{Head, head_length}
use Rattle.tracks.specs.Windows.{read_start, read_bytes}

-- where the stretch of each track begins that is to be read, and how long it is; the first track begins at byte o
unfoldable pub reads : ℕ → ℕ → ℕ → ℕ → List Head → List ℕ
reads n a b o [] = []
reads n a b o (h ∷ hs) = read_start n h o a b ∷ read_bytes n h o a b ∷ reads n a b (o + head_length h) hs
