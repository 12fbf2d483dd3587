use Rattle.std.proofs.Common.{rules, arith, ◌≡◌, ◌+◌, ◌-◌, ◌*◌, ◌^◌, to_z, of_z, w64}
use Rattle.numbers.specs.Sums.{at0}
use Rattle.reference.specs.Stages.{tap}
use Rattle.lanes.specs.inner.Lanes.{copied}
use Rattle.lanes.proofs.Pairs.{copied_size, fourths_size, fourths_none, fourths_more}
use Rattle.lanes.proofs.Places.{added_none, added_then, lanes_then}
use Rattle.lanes.proofs.Arms.fourths.Goals as goal

pub loop-k-init : goal.loop-k-init
loop-k-init g c = added_none _ (λ l. fourths_none _ _ _ _ _)

pub two-s-requires : goal.two-s-requires
two-s-requires g c =
    let a = c.args.self in
    let k = c.loop-k.k in
    let j = c.args.from + 4 * k in
    let first = a.small.size j in
    let second = a.small.size (j + 2) in (
      search rules,
      (
        (omega arith, omega arith, search rules, search rules),
        (
          a.low,
          lanes_then (2 * k * 2 ^ 56) (125 * 2 ^ 56) c.loop-k.invariant c.requires.lanes
              (λ i. fourths_size a.h.now (copied a.v.now) c.args.from (a.end + i - 1) (a.up + i) k a.small (copied_size a.low))
              (omega arith),
        ),
      ),
    )

pub loop-k-preserved : goal.loop-k-preserved
loop-k-preserved g c =
    let a = c.args.self in
    let k = c.loop-k.k in
    let j = c.args.from + 4 * k in
    let first : to_z w64 (of_z w64 (at0 a.h.now j)) ≡ tap a.h.now j = search rules in
    let second : to_z w64 (of_z w64 (at0 a.h.now (j + 2))) ≡ tap a.h.now (j + 2) = search rules in
    added_then c.loop-k.invariant c.two-s.ensures (λ i. rw (first, second) (fourths_more a.h.now (copied a.v.now) c.args.from a.end a.up k i (omega arith)))

pub returns : goal.returns
returns g c =
    let e : c.loop-k.k ≡ c.args.n = omega arith in
    rw e at c.loop-k.invariant
