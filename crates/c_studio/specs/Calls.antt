-- What the calls of the studio promise: statistics joined, the level sheet, overs, turns. A primed list is one at exit.
use Rattle.std.specs.Prelude.{◌≡◌, List, Bool, ◌&&◌, ℕ, eqb, ℤ, length, get_or}
use Rattle.numbers.specs.Lists.{tabulate}
use Rattle.reference.specs.Statistics.{joined_stats}
use Rattle.reference.specs.Refusals.{Decision, decide, refusal_number}
use Rattle.reference.specs.Promises.{by_decision}
use Rattle.overs.specs.Overs.{overs_of}
use Rattle.sheet.specs.Sheet.{sheet}
use Rattle.sheet.specs.Promises.{sheet_places}
use Rattle.boards.specs.Boards.{board}
use Rattle.finishes.specs.Turns.{simulated, finish_in, lateness_in}
use Rattle.schedule.specs.Promise.{simulate_places}
use Rattle.codes.specs.Told.{ToldWritten}
use Rattle.codes.specs.Calls.{CCall}
use Rattle.c_stats.specs.Stats.{known_stats, held_stats, stat_numbers}
use Rattle.c_studio.specs.Progress.{known_end, progress_of, over_numbers}

-- two statistics joined, in the place of the first
abbrev pub JoinCall : List ℕ → List ℕ → List ℕ → ℕ → Type 0
JoinCall a b a' answer =
    CCall (known_stats a && known_stats b) answer (a' ≡ a)
    ((answer ≡ 0) × (a' ≡ stat_numbers (joined_stats (held_stats a) (held_stats b))))

-- the sheet of some statistics
abbrev pub SheetCall : ℕ → List ℕ → List ℕ → List ℕ → List ℕ → List ℕ → ℕ → Type 0
SheetCall channels b out out' data₀ data' answer =
    CCall (known_stats b) answer
    ((out' ≡ out) × (data' ≡ data₀))
    (ToldWritten (decide (sheet_places channels (held_stats b) (length out))) (sheet channels (held_stats b)) out out' data' answer)

-- overs of channel c of n, and what is in progress after the samples, from what is in progress before them: of three
-- numbers the first is not read
abbrev pub OversCall : List ℤ → ℕ → ℕ → List ℕ → List ℕ → ℕ → Type 0
OversCall samples n c told told' answer =
    CCall (known_end (get_or told 1 0)) answer (told' ≡ told)
    ((answer ≡ 0) × (told' ≡ over_numbers (overs_of samples n c (progress_of (get_or told 1 0) (get_or told 2 0)))))

-- each list has a place for each album
abbrev pub turns_understood : List ℕ → List ℕ → List ℕ → List ℤ → Bool
turns_understood frames dues finishes late =
    eqb (length dues) (length frames) && (eqb (length finishes) (length frames) && eqb (length late) (length frames))

-- d is what a simulation decides; finishing turns and latenesses are written if it accepts
pub record TurnsDone (d : Decision) (frames dues : List ℕ) (turn : ℕ) (finishes : List ℕ) (late : List ℤ) (finishes' : List ℕ) (late' : List ℤ) (answer : ℕ) : Type 0 where
  pub number : answer ≡ refusal_number d
  pub finished : finishes' ≡ by_decision d (tabulate (finish_in (board frames dues turn) (simulated (board frames dues turn))) 0 (length frames)) finishes
  pub measured : late' ≡ by_decision d (tabulate (lateness_in (board frames dues turn) (simulated (board frames dues turn))) 0 (length frames)) late

abbrev pub TurnsCall : List ℕ → List ℕ → ℕ → List ℕ → List ℤ → List ℕ → List ℤ → ℕ → Type 0
TurnsCall frames dues turn finishes late finishes' late' answer =
    CCall (turns_understood frames dues finishes late) answer
    ((finishes' ≡ finishes) × (late' ≡ late))
    (TurnsDone (decide (simulate_places frames dues turn (length finishes) (length late))) frames dues turn finishes late finishes' late' answer)
