use Rattle.std.proofs.Common.{rules, arith, ◌≡◌, ◌+◌, ◌*◌, ◌<◌, length}
use Rattle.overs.specs.Overs.{step, channel, channel_size, overs_of}
use Rattle.overs.proofs.Laws.{at, place_inside}
use Rattle.channel_overs.proofs.Turns.{none_so_far, passed_on, stepped_on, few}
use Rattle.channel_overs.proofs.overs.Goals as goal

pub loop-k-init : goal.loop-k-init
loop-k-init c = (omega arith, none_so_far)

pub loop-k-preserved-then-k-past : goal.loop-k-preserved-then-k-past
loop-k-preserved-then-k-past c =
    let e = c.passed_over-past.ensures in
    (e.0, passed_on c.loop-k.invariant.1 e.1 c.if-k-past.true)

-- the place that is read
inside : (c : goal.Else-k-past) → c.loop-k.k * c.args.n + c.args.c < length c.args.items.now
inside c = (place_inside (length c.args.items.now) c.args.n c.args.c c.loop-k.k (omega (arith, c.channel_size-m.ensures))).1

pub overflow_mul-k : goal.overflow_mul-k
overflow_mul-k c = let i = inside c in search rules

pub overflow_add-k : goal.overflow_add-k
overflow_add-k c = let i = inside c in search rules

pub offset_bounds-items-k : goal.offset_bounds-items-k
offset_bounds-items-k c = let i = inside c in search rules

pub bounds-items-k : goal.bounds-items-k
bounds-items-k c = inside c

pub overflow_add-count : goal.overflow_add-count
overflow_add-count c =
    let stepped : c.step-counted.result ≡ step c.loop-k.state (at c.args.items.now c.args.n c.args.c c.loop-k.k) = search rules in
    let f = few c.loop-k.invariant.1 stepped in
    search rules

pub loop-k-preserved : goal.loop-k-preserved
loop-k-preserved c =
    let stepped : c.step-counted.result ≡ step c.loop-k.state (at c.args.items.now c.args.n c.args.c c.loop-k.k) = search rules in
    (omega arith, stepped_on c.loop-k.invariant.1 stepped)

pub returns : goal.returns
unfolding overs_of channel
returns c =
    let e : c.loop-k.k ≡ channel_size (length c.args.items.now) c.args.n c.args.c = omega (arith, c.channel_size-m.ensures) in
    rw (c.loop-k.invariant.1.state, c.loop-k.invariant.1.counted, c.normal-state.ensures, e)
