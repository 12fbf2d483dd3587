-- `width_of`: the digits are those of the size, and a minus sign is one character more.
use Rattle.std.proofs.Common.{◌≡◌, ap, arith, rules, length, w64, to_z, of_z}
use Rattle.columns.proofs.Widths.{no_level, some_level, with_sign}
use Rattle.columns.proofs.width_of.Goals as goal

pub returns-in-None : goal.returns-in-None
returns-in-None c = rw c.in-None.is (omega (arith, ap length no_level))

pub returns-in-Some : goal.returns-in-Some
returns-in-Some c =
    let own : to_z w64 (of_z w64 c.in-Some.z) ≡ c.in-Some.z = search rules in
    rw (c.in-Some.is, c.digits.ensures.0, c.unsigned_abs.ensures.value, c.from.ensures, own, some_level) (with_sign c.in-Some.z)
