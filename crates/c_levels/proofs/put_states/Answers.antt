use Rattle.std.proofs.Common.{rules}
use Rattle.numbers.proofs.Arrays.{made_array}
use Rattle.c_levels.specs.Standings.{standing_numbers}
use Rattle.c_levels.proofs.put_states.Goals as goal

pub returns : goal.returns
unfolding standing_numbers
returns c = made_array _ _ _ _ 12 0 c.from_fn-numbers.ensures.items (λ k y q l r. (search rules, search rules))
