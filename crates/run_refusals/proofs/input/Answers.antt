-- `input`: a neighbour of another length.
use Rattle.std.proofs.Common.{sym}
use Rattle.run_refusals.proofs.Inputs.{long_before, long_after}
use Rattle.run_refusals.proofs.input.Goals as goal

pub returns-in-Some : goal.returns-in-Some
returns-in-Some c =
    long_before _ _ _ _ _ _ _ c.requires c.if-n-size-ne0.false c.in_ok-few.ensures _ (sym (rw c.frame_before.ensures at c.in-Some.ensures))

pub returns-in-Some-wrong_length : goal.returns-in-Some-wrong_length
returns-in-Some-wrong_length c =
    let before = sym (rw c.frame_before.ensures at c.in_default.ensures) in
    long_after _ _ _ _ _ _ _ c.requires c.if-n-size-ne0.false c.in_ok-few.ensures before _ (sym (rw c.frame_after.ensures at c.in-Some-wrong_length.ensures))
