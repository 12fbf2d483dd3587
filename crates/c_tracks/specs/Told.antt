-- An album's numbers.
use Rattle.std.specs.Prelude.{List, [], ◌∷◌, ℕ}
use Rattle.tracks_open.specs.declared.Album.{Album}

-- an album's numbers in a list
abbrev pub album_numbers : Album → List ℕ
album_numbers a = a.channels ∷ a.channel_type ∷ a.bytes ∷ a.frames ∷ a.«data» ∷ a.frame ∷ a.filled ∷ a.pieces ∷ []
