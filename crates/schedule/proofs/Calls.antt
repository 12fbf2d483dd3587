-- What an accepted call returns, and that it is best.
use Rattle.std.proofs.Common.{◌≡◌, refl, sym, ◌∙◌, ap, List, [], Bool, true, false, cond, not, ℕ, zero, suc, ◌-◌, ◌≤◌, zero-add, arith, ℤ, pos, length, get_or}
use Rattle.numbers.specs.Lists.{tabulate}
use Rattle.numbers.proofs.Lists.{get_d_tabulate, length_tabulate}
use Rattle.reference.specs.Refusals.{accepted, refused, is_accepted, decide}
use Rattle.reference.proofs.Promises.{exit_accepted}
use Rattle.boards.specs.Boards.{board, fitting}
use Rattle.finishes.specs.Turns.{simulated, lateness_in, greatest, greatest_lateness}
use Rattle.schedule.specs.Promise.{simulate_places, ReturnsTheBest}
use Rattle.boards.proofs.Ranges.{ranges, fits}
use Rattle.finishes.proofs.Best.{due_first_is_best}

pub greatest_same : (f g : ℕ → ℤ) (n : ℕ) → ((a : ℕ) → a ≤ n → f a ≡ g a) → greatest f n ≡ greatest g n
unfolding greatest
greatest_same f g zero h = h 0 (omega arith)
greatest_same f g (suc n) h = rw (greatest_same f g n (λ a l. h a (omega arith)), h (suc n) (omega arith))

-- a call that is accepted fits
pub was_fitting : (frames dues : List ℕ) (turn finishes late : ℕ) → decide (simulate_places frames dues turn finishes late) ≡ accepted → fitting frames dues turn finishes late ≡ true
unfolding decide simulate_places is_accepted
was_fitting frames dues turn finishes late e = go (fitting frames dues turn finishes late) (ap is_accepted e)
  where
    go : (b : Bool) → is_accepted (cond (not b) (refused 19 []) accepted) ≡ true → b ≡ true
    go true h = refl
    go false h = h

pub returns_the_best : ReturnsTheBest
unfolding greatest_lateness
returns_the_best frames dues turn finishes late finishes' late' answer p e order o =
    let s = board frames dues turn in
    let ok = sym p.decided ∙ e in
    let f = fits frames dues turn (length finishes) (length late) (was_fitting frames dues turn (length finishes) (length late) ok) in
    let q : late' ≡ tabulate (lateness_in s (simulated s)) 0 (length frames) = p.measured ∙ exit_accepted _ _ _ ok in
    let k : length late' ≡ length frames = ap length q ∙ length_tabulate _ 0 (length frames) in
    let some = (ranges s f.ranged).some in
    rw k (rw (greatest_same (λ a. get_or late' a (pos 0)) (lateness_in s (simulated s)) (length frames - 1) (λ a l.
    ap (λ l. get_or l a (pos 0)) q ∙ get_d_tabulate (lateness_in s (simulated s)) 0 (length frames) a (pos 0) (omega arith) ∙ ap (lateness_in s (simulated s)) (zero-add a)))
    ((due_first_is_best s f.ranged).1 order o))
