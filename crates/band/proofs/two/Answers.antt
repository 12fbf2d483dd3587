use Rattle.std.proofs.Common.{rules, arith, refl, ◌≡◌, ◌+◌, ◌≤◌, ◌^◌, nat_abs, ◌+ℤ◌, ◌*ℤ◌, ℤ, ap, ◌∙◌, ◌*◌}
use lib.IntN.{+ℤ_assoc}
use Rattle.numbers.specs.Sums.{at0}
use Rattle.numbers.proofs.Integers.{abs_add}
use Rattle.lanes.specs.inner.Lanes.{copied}
use Rattle.band.specs.inner.Bands.{signed}
use Rattle.band.proofs.Turns.{signed_size}
use Rattle.lanes.proofs.Pairs.{copied_size, pair_size}
use Rattle.numbers.proofs.Lists.{written_more}
use Rattle.band.proofs.two.Goals as goal

pub pair-requires-clause-i_in_bounds : goal.pair-requires-clause-i_in_bounds
pair-requires-clause-i_in_bounds g c =
    let i = c.loop-l.l in
    let same = c.loop-l.invariant.1.kept i (λ j m. omega arith) in
    let low = copied_size c.requires.low in
    let u = copied c.args.v.now (c.args.down + 2 + i) in
    let w = copied c.args.v.now (c.args.up + i) in
    let p = pair_size (signed c.args.minus c.args.a) u w (rw (signed_size c.args.minus c.args.a) c.requires.down_in_bounds.2) (low _) (low _) in
    let e : c.pair-q.result ≡ at0 c.args.acc i +ℤ signed c.args.minus c.args.a *ℤ (u +ℤ w) = search rules in
    let s = abs_add (at0 c.args.acc i) (signed c.args.minus c.args.a *ℤ (u +ℤ w)) in
    let b = c.requires.lanes.size i (omega arith) in
    let m : nat_abs c.pair-q.result ≤ 126 * 2 ^ 56 = omega (arith, ap nat_abs e) in
    search rules

pub loop-l-preserved : goal.loop-l-preserved
loop-l-preserved g c =
    let i = c.loop-l.l in
    let v = copied c.args.v.now in
    let same = c.loop-l.invariant.1.kept i (λ j m. omega arith) in
    let a : ℤ = signed c.args.minus c.args.a *ℤ (v (c.args.down + 2 + i) +ℤ v (c.args.up + i)) in
    let b : ℤ = signed c.args.minus c.args.b *ℤ (v (c.args.down + i) +ℤ v (c.args.up + 2 + i)) in
    let one : c.pair-q.result ≡ at0 c.args.acc i +ℤ a = search rules in
    let both : c.pair.result ≡ at0 c.args.acc i +ℤ a +ℤ b = search rules in
    let sum = both ∙ +ℤ_assoc (at0 c.args.acc i) a b in
    (search rules, written_more c.loop-l.invariant.1 refl (λ j m. omega arith) (omega arith) (search rules))
