-- What `reads` answers.
use Rattle.std.specs.Prelude.{◌≡◌, List, ℕ}
use Rattle.tracks.specs.Tracks.{Head}
use Rattle.tracks.specs.Windows.{windows_length}
use Rattle.tracks_plan.specs.Reads.{reads}

-- all stretches, and the bytes of all
pub record ReadsPromise (n a b : ℕ) (hs : List Head) (out' : List ℕ) (answer : ℕ) : Type 0 where
  pub written : out' ≡ reads n a b 0 hs
  pub all : answer ≡ windows_length n a b 0 hs
