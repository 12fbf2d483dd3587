-- The buffer of three frames as the next one is read.
use Rattle.std.specs.Prelude.{List, ◌++◌, ℕ, ◌*◌, drop}

-- the frames move one place to the front; the last stays where it was, too
unfoldable pub moved_on : ℕ → List ℕ → List ℕ
moved_on size three = drop size three ++ drop (2 * size) three
