use Rattle.std.proofs.Common.{rules, arith, ◌≡◌, ◌+◌, ◌-◌, ◌*◌, ◌^◌, length, to_z, of_z, w64}
use Rattle.numbers.specs.Sums.{at0}
use Rattle.reference.specs.Stages.{tap}
use Rattle.lanes.specs.inner.Lanes.{copied}
use Rattle.lanes.proofs.Pairs.{copied_size, arms_size, arms_none, arms_more}
use Rattle.lanes.proofs.Places.{added_none, added_then, lanes_then}
use Rattle.lanes.proofs.Arms.singly.Goals as goal

pub loop-j-init : goal.loop-j-init
loop-j-init g c = added_none _ (λ l. arms_none _ _ _ _ _ _ (omega arith))

pub one-s-requires : goal.one-s-requires
one-s-requires g c =
    let a = c.args.self in
    let n = c.loop-j.j - c.args.from in
    let tap = a.small.size c.loop-j.j in (
      search rules,
      (
        (omega arith, omega arith, search rules),
        (
          a.low,
          lanes_then ((length a.h.now - c.args.from - 1) * 2 ^ 56) (126 * 2 ^ 56) c.loop-j.invariant c.requires.lanes
              (λ i. omega (arith, arms_size a.h.now (copied a.v.now) c.args.from (a.end + i - 1) (a.up + i) n a.small (copied_size a.low)))
              (omega arith),
        ),
      ),
    )

pub loop-j-preserved : goal.loop-j-preserved
loop-j-preserved g c =
    let a = c.args.self in
    let j = c.loop-j.j in
    let e : to_z w64 (of_z w64 (at0 a.h.now j)) ≡ tap a.h.now j = search rules in
    added_then c.loop-j.invariant c.one-s.ensures (λ i. rw e (arms_more a.h.now (copied a.v.now) c.args.from a.end a.up j i (omega arith) (omega arith)))

pub returns : goal.returns
returns g c =
    let e : c.loop-j.j ≡ length c.args.self.h.now = omega arith in
    rw e at c.loop-j.invariant
