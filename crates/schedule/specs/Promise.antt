-- What a call of `simulate` promises.
use Rattle.std.specs.Prelude.{◌≡◌, Result, List, [], ◌∷◌, not, ℕ, ◌-◌, ℤ, pos, length, get_or, ◌≤ℤ◌}
use Rattle.numbers.specs.Lists.{tabulate}
use Rattle.reference.specs.Refusals.{Place, place, decide, decision, accepted}
use Rattle.reference.specs.Promises.{by_decision}
use Rattle.reference.specs.declared.PcmError.{PcmError}
use Rattle.boards.specs.Boards.{board, fitting}
use Rattle.finishes.specs.Turns.{simulated, finish_in, lateness_in, GivesTurns, greatest, greatest_lateness}

-- the one place of refusal. `finishes` and `late` are the lengths of the lent lists
unfoldable pub simulate_places : List ℕ → List ℕ → ℕ → ℕ → ℕ → List Place
simulate_places frames dues turn finishes late = place (not (fitting frames dues turn finishes late)) 19 [] ∷ []

-- the lent lists at entry and at exit. Where the call is refused, they keep what they held
pub record SimulatePromise (frames dues : List ℕ) (turn : ℕ) (finishes : List ℕ) (late : List ℤ) (finishes' : List ℕ) (late' : List ℤ) (answer : Result (Unit {0}) PcmError) : Type 0 where
  pub decided : decision answer ≡ decide (simulate_places frames dues turn (length finishes) (length late))
  pub finished : finishes' ≡ by_decision (decide (simulate_places frames dues turn (length finishes) (length late)))
      (tabulate (finish_in (board frames dues turn) (simulated (board frames dues turn))) 0 (length frames)) finishes
  pub measured : late' ≡ by_decision (decide (simulate_places frames dues turn (length finishes) (length late)))
      (tabulate (lateness_in (board frames dues turn) (simulated (board frames dues turn))) 0 (length frames)) late

-- no order that gives each album its turns has a smaller greatest lateness than an accepted call returns; proved in
-- proofs/Calls
abbrev pub ReturnsTheBest : Type 0
ReturnsTheBest =
    (frames dues : List ℕ) (turn : ℕ) (finishes : List ℕ) (late : List ℤ) (finishes' : List ℕ) (late' : List ℤ) (answer : Result (Unit {0}) PcmError)
    → SimulatePromise frames dues turn finishes late finishes' late' answer → decision answer ≡ accepted
    → (order : List ℕ) → GivesTurns (board frames dues turn) order
    → greatest (λ a. get_or late' a (pos 0)) (length late' - 1) ≤ℤ greatest_lateness (board frames dues turn) order
