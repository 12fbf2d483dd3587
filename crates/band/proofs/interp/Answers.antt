use Rattle.std.proofs.Common.{rules, arith, ◌^◌, pos, ap, ◌∙◌, length}
use Rattle.lanes.specs.inner.Lanes.{Filled}
use Rattle.numbers.proofs.Lists.{written_all}
use Rattle.filters.proofs.Places.{filled_small, filled_again}
use Rattle.band.proofs.Turns.{eight_sizes}
use Rattle.band.proofs.Bands.{middle_whole, middle_rounded}
use Rattle.band.proofs.interp.Goals as goal

pub invariant_of-places : goal.invariant_of-places
invariant_of-places c = record { eight = ap length c.requires.lent ∙ eight_sizes; odd = c.requires.lent; low = c.bias_all.ensures.low }

pub places-requires-clause-small : goal.places-requires-clause-small
places-requires-clause-small c =
    let zeros : Filled (λ k. pos 0) c.args.y.now c.fill.new.self = written_all c.fill.ensures.len (λ k m. search rules) in
    filled_small (2 ^ 29) zeros (λ k. omega arith)

pub places-requires-clause-whole : goal.places-requires-clause-whole
places-requires-clause-whole c =
    let zeros : Filled (λ k. pos 0) c.args.y.now c.fill.new.self = written_all c.fill.ensures.len (λ k m. search rules) in
    middle_whole c.fill.new.self c.args.x.now _ (omega arith) c.bias_all.ensures (λ k m. zeros.done k (omega (arith, zeros.same))) (rw zeros.same c.requires.fit)

pub returns-clause-filled : goal.returns-clause-filled
returns-clause-filled c =
    let zeros : Filled (λ k. pos 0) c.args.y.now c.fill.new.self = written_all c.fill.ensures.len (λ k m. search rules) in
    filled_again zeros (middle_rounded c.fill.new.self c.args.x.now _ (omega arith) c.bias_all.ensures (λ k m. zeros.done k (omega (arith, zeros.same))) c.places.ensures)
