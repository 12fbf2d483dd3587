use Rattle.std.proofs.Common.{rules}
use Rattle.routes.proofs.Filters.{middle_fit_small, interleaved_gives}
use Rattle.stages.proofs.Smalls.{small_part}
use Rattle.narrow.proofs.between.Goals as goal

pub interp-requires-clause-small : goal.interp-requires-clause-small
interp-requires-clause-small c = small_part 1 183 c.requires.small

pub interp-requires-clause-fit : goal.interp-requires-clause-fit
interp-requires-clause-fit c = middle_fit_small _ 168 (small_part 1 183 c.requires.small)

pub returns-clause-held : goal.returns-clause-held
returns-clause-held c = λ F β n l even held. interleaved_gives F β n l even held c.interp.ensures.filled (search rules) c.interleave.ensures (search rules)
