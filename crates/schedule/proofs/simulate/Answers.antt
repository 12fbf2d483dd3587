-- `simulate`: each album's place of the lent lists is written.
use Rattle.std.proofs.Common.{◌≡◌, sym, ◌∙◌, ap, List, ℕ, ◌+◌, zero-add, arith, w32, to_z-of_z, ℤ, pos, ◌-ℤ◌, length}
use Rattle.reference.specs.Refusals.{decide}
use Rattle.reference.specs.Promises.{by_decision}
use Rattle.numbers.proofs.Lists.{held_none, held_more, is_tabulate}
use Rattle.boards.specs.Boards.{Board}
use Rattle.finishes.specs.Turns.{finish_in, lateness_in}
use Rattle.schedule.specs.Promise.{simulate_places}
use Rattle.boards.proofs.Ranges.{ranges, fits}
use Rattle.schedule.proofs.simulate.Goals as goal

measured : (s : Board) (order : List ℕ) (a f : ℕ) (r : ℤ) → r ≡ pos f -ℤ pos (s.due a) → f ≡ finish_in s order a → r ≡ lateness_in s order a
unfolding lateness_in
measured s order a f r e i = e ∙ ap (λ k. pos k -ℤ pos (s.due a)) i

pub returns-then-not-fitting : goal.returns-then-not-fitting
unfolding decide simulate_places by_decision
returns-then-not-fitting c =
    let e = sym c.fitting.ensures ∙ c.if-not-fitting.true in
    record { decided = rw e; finished = rw e; measured = rw e }

pub loop-a-init : goal.loop-a-init
loop-a-init c = (fits _ _ _ _ _ (sym c.fitting.ensures ∙ c.if-not-fitting.false), held_none, held_none)

pub lateness-requires : goal.lateness-requires
lateness-requires c = (c.finish-f.ensures.1, ((ranges _ c.loop-a.invariant.0.ranged).album _ c.loop-a-test.true).due_by)

pub loop-a-preserved : goal.loop-a-preserved
loop-a-preserved c =
    let l = c.loop-a in
    let finished = c.finish-f.ensures.0 in
    let f = l.invariant.0 in
    let z : 0 + l.a ≡ l.a = zero-add _ in (
      f,
      held_more l.invariant.1 (omega (arith, f)) (rw z finished),
      held_more l.invariant.2 (omega (arith, f)) (rw z (to_z-of_z {w = w32} (record { sfits = c.lateness.type_inv }) ∙ measured _ _ _ _ _ c.lateness.ensures finished)),
    )

pub returns : goal.returns
unfolding decide simulate_places by_decision
returns c =
    let l = c.loop-a in
    let e : l.a ≡ length c.args.frames.now = omega arith in
    let f = l.invariant.0 in
    let taken = sym c.fitting.ensures ∙ c.if-not-fitting.false in
    record {
      decided = rw taken;
      finished = rw taken (is_tabulate _ 0 _ 0 l.finishes (l.auto.finishes ∙ f.finished) (λ i m. l.invariant.1.is i (omega arith)));
      measured = rw taken (is_tabulate _ 0 _ (pos 0) l.late (l.auto.late ∙ f.measured) (λ i m. l.invariant.2.is i (omega arith)));
    }
