-- Some frames of an album, with the frames next to them.
use Rattle.std.specs.Prelude.{List, [], Bool, true, false, ℕ, ◌+◌, ◌-◌, ltb}
use Rattle.numbers.specs.Lists.{tabulate}
use Rattle.text.specs.Text.{joined}
use Rattle.reference.specs.Frames.{Run, run}

-- frames end to end
unfoldable pub frames_from : (ℕ → List ℕ) → ℕ → ℕ → List ℕ
frames_from frame first count = joined (tabulate frame first count)

unfoldable pub there : Bool → List ℕ → List ℕ
there true l = l
there false l = []

-- `count` frames of an album of f from frame `first` on, with the frames next to them
unfoldable pub run_from : (ℕ → List ℕ) → ℕ → ℕ → ℕ → Run
run_from frame f first count =
    run (ltb 0 first) (there (ltb 0 first) (frame (first - 1))) (frames_from frame first count)
    (ltb (first + count) f) (there (ltb (first + count) f) (frame (first + count)))
