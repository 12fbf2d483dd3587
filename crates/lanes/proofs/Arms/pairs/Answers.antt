use Rattle.std.proofs.Common.{rules, arith, ◌+◌, ◌-◌, ◌*◌, ◌/◌, ◌^◌, refl, length}
use Rattle.lanes.specs.inner.Lanes.{copied}
use Rattle.lanes.proofs.Pairs.{copied_size, fourths_size, by_fourths}
use Rattle.lanes.proofs.Places.{added_then, lanes_then}
use Rattle.lanes.proofs.Arms.pairs.Goals as goal

pub fourths-a-requires : goal.fourths-a-requires
fourths-a-requires g c =
    (search rules, ((omega arith, omega arith, omega arith), record { size = λ l m. omega (arith, c.requires.lanes.size l m) }))

pub fourths-b-requires : goal.fourths-b-requires
fourths-b-requires g c =
    let a = c.args.self in
    let n = (length a.h.now - c.args.from) / 4 in
    let low = copied_size a.low in (
      search rules,
      (
        (omega arith, omega arith, omega arith),
        lanes_then (2 * n * 2 ^ 56) ((127 - 2 * n) * 2 ^ 56) c.fourths-a.ensures c.requires.lanes (λ i. fourths_size _ _ _ _ _ n a.small low) (omega arith),
      ),
    )

pub singly-requires : goal.singly-requires
singly-requires g c =
    let a = c.args.self in
    let long = length a.h.now in
    let n = (long - c.args.from) / 4 in
    let low = copied_size a.low in
    let once = lanes_then (2 * n * 2 ^ 56) ((127 - long + 2 * n) * 2 ^ 56) c.fourths-a.ensures c.requires.lanes (λ i. fourths_size _ _ _ _ _ n a.small low) (omega arith) in (
      search rules,
      (
        (omega arith, omega arith, omega arith),
        lanes_then (2 * n * 2 ^ 56) ((127 - (long - (c.args.from + 4 * n))) * 2 ^ 56) c.fourths-b.ensures once (λ i. fourths_size _ _ _ _ _ n a.small low) (omega arith),
      ),
    )

pub returns : goal.returns
returns g c =
    let a = c.args.self in
    let long = length a.h.now in
    added_then (added_then c.fourths-a.ensures c.fourths-b.ensures (λ l. refl)) c.singly.ensures
    (λ l. by_fourths a.h.now (copied a.v.now) c.args.from (a.end + l - 1) (a.up + l) ((long - c.args.from) / 4) long (omega arith))
