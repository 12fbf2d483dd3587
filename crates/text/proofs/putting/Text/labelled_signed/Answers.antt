-- `labelled_signed`: a number of 32 bits has at most eleven characters.
use Rattle.std.proofs.Common.{◌≡◌, ◌∙◌, ℤ, w32, w64, to_z, of_z, arith, to_z-of_z, SFits}
use Rattle.text.proofs.Signs.{short}
use Rattle.text.proofs.Writing.{both}
use Rattle.text.proofs.putting.Text.labelled_signed.Goals as goal

widened : {y z : ℤ} → SFits w64 y → SFits w32 z → y ≡ to_z w32 (of_z w32 z) → to_z w64 (of_z w64 y) ≡ z
widened f g e = to_z-of_z f ∙ e ∙ to_z-of_z g

pub signed-requires : goal.signed-requires
signed-requires c =
    rw (widened (record { sfits = c.from.type_inv }) c.ranges.z c.from.ensures) (let p = c.put.ensures in omega (arith, short c.args.z c.ranges.z.sfits))

pub returns-clause-printed : goal.returns-clause-printed
returns-clause-printed c = both c.put.ensures (rw (widened (record { sfits = c.from.type_inv }) c.ranges.z c.from.ensures) at c.signed.ensures)

pub returns-clause-upper_bound : goal.returns-clause-upper_bound
returns-clause-upper_bound c =
    let p = rw (widened (record { sfits = c.from.type_inv }) c.ranges.z c.from.ensures) at c.signed.ensures in
    omega (arith, short c.args.z c.ranges.z.sfits)
