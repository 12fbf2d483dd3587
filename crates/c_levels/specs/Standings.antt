-- What is in progress in each of six channels, as numbers: channel by channel its end's number and its length.
use Rattle.std.specs.Prelude.{List, Bool, ◌&&◌, ℕ, ◌*◌, ◌+◌, ◌/◌, ◌%◌, get_or, cond, eqb}
use Rattle.numbers.specs.Lists.{tabulate}
use Rattle.overs.specs.Overs.{Progress, none}
use Rattle.c_studio.specs.Progress.{known_end, progress_of, end_number, standing_length}

-- every end is known
abbrev pub known_standings : List ℕ → Bool
known_standings s =
    known_end (get_or s 0 0)
    && (known_end (get_or s 2 0) && (known_end (get_or s 4 0) && (known_end (get_or s 6 0) && (known_end (get_or s 8 0) && known_end (get_or s 10 0)))))

-- what they stand for
unfoldable pub held_standings : List ℕ → List Progress
held_standings s = tabulate (λ c. progress_of (get_or s (2 * c) 0) (get_or s (2 * c + 1) 0)) 0 6

-- number k of a channel: its end's, its length
abbrev pub standing_number : Progress → ℕ → ℕ
standing_number p k = cond (eqb k 0) (end_number p) (standing_length p)

unfoldable pub standing_numbers : List Progress → List ℕ
standing_numbers states = tabulate (λ k. standing_number (get_or states (k / 2) none) (k % 2)) 0 12
