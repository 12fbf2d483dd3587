use Rattle.std.proofs.Common.{sym}
use Rattle.dsf_why.proofs.Fields.{all_right, none_of}
use Rattle.dsf_why.proofs.why_of.Goals as goal

pub numbers-requires : goal.numbers-requires
numbers-requires c = all_right _ _ (none_of _ _ (sym c.in-None.ensures))
