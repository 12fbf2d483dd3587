-- `all_samples` meets its contract: by the settings' numbers.
use Rattle.std.proofs.Common.{arith, refl}
use Rattle.reference.proofs.Refusals.{stored_samples}
use Rattle.run_refusals.proofs.Steps.{few_samples}
use Rattle.run_refusals.proofs.all_samples.Goals as goal

pub overflow_mul-result : goal.overflow_mul-result
overflow_mul-result c =
    rw (c.frame_count.ensures, stored_samples c.args.conv c.requires.conv_value) (omega (arith, few_samples c.args.conv c.requires.conv_value _ c.requires.frames_bound))

pub overflow_mul-result-2 : goal.overflow_mul-result-2
overflow_mul-result-2 c =
    rw (c.frame_count.ensures, stored_samples c.args.conv c.requires.conv_value) (omega (arith, few_samples c.args.conv c.requires.conv_value _ c.requires.frames_bound))

pub returns : goal.returns
returns c =
    rw (c.frame_count.ensures, stored_samples c.args.conv c.requires.conv_value) (refl, omega (arith, few_samples c.args.conv c.requires.conv_value _ c.requires.frames_bound))
