-- What a simulation has done.
use Rattle.std.proofs.Common.{◌≡◌, ap, ◌∙◌, Result, List, ℕ, ℤ, length}
use Rattle.reference.specs.Refusals.{decide, decision, refusal_number}
use Rattle.reference.specs.declared.PcmError.{PcmError}
use Rattle.schedule.specs.Promise.{SimulatePromise, simulate_places}
use Rattle.c_studio.specs.Calls.{TurnsDone}

pub turns_done : (frames dues : List ℕ) (turn : ℕ) {finishes : List ℕ} {late : List ℤ} {finishes' : List ℕ} {late' : List ℤ} {answer : ℕ} (made : Result (Unit {0}) PcmError)
    → SimulatePromise frames dues turn finishes late finishes' late' made → answer ≡ refusal_number (decision made)
    → TurnsDone (decide (simulate_places frames dues turn (length finishes) (length late))) frames dues turn finishes late finishes' late' answer
turns_done frames dues turn made p t = record { number = t ∙ ap refusal_number p.decided; finished = p.finished; measured = p.measured }
