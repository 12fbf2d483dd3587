-- `div_round` meets its contract: the one sum, over the number that the code reads.
use Rattle.std.proofs.Common.{arith, ◌≡◌, ◌^◌, pos, nat_abs, ◌-ℤ◌, ℕ, ◌*◌, ◌/◌, ◌%◌, ℤ, to_z, of_z, w64, sym, ap, ◌∙◌}
use Rattle.std.proofs.lemmas.Nat.{one_shl, pow_below}
use Rattle.std.proofs.lemmas.Int.{to_z-of_z}
use Rattle.std.proofs.Math.Nat.{div-le_self}
use Rattle.numbers.proofs.Machine.{val}
use Rattle.reference.specs.Rounding.{R}
use Rattle.rounding.proofs.Biased.{near, half_some, biased_R}
use Rattle.rounding.proofs.div_round.Goals as goal

pub overflow_sub-carry : goal.overflow_sub-carry
overflow_sub-carry g c =
    let h = half_some g.row.Q c.requires.0 c.requires.1 in
    rw (one_shl g.row.Q 64 (omega arith)) (omega arith)

pub lower-requires : goal.lower-requires
lower-requires g c =
    let s = to_z-of_z w64 c.args.biased c.ranges.biased in
    let u = pow_below g.row.Q 53 (omega arith) in
    rw (one_shl g.row.Q 64 (omega arith), s) (omega (arith, div-le_self))

pub returns : goal.returns
returns g c =
    let q = g.row.Q in
    let s = to_z-of_z w64 c.args.biased c.ranges.biased in
    let e : 1 * 2 ^ q % 18446744073709551616 ≡ 2 ^ q = one_shl q 64 (omega arith) in
    val _ _ c.lower.type_inv
    (c.lower.ensures
    ∙ ap (λ (D : ℕ). pos (near D (nat_abs (to_z w64 (of_z w64 c.args.biased)))) -ℤ pos (2 ^ 53 / D)) e
    ∙ ap (λ (z : ℤ). pos (near (2 ^ q) (nat_abs z)) -ℤ pos (2 ^ 53 / 2 ^ q)) s
    ∙ sym (biased_R q c.requires.0 c.requires.1 (nat_abs c.args.biased))
    ∙ ap (λ (z : ℤ). R (z -ℤ pos (2 ^ 53)) q) (sym c.requires.2))
