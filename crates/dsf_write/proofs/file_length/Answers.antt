use Rattle.std.proofs.Common.{sym}
use Rattle.dsf_write.proofs.Writing.{accepted_few}
use Rattle.dsf_write.proofs.file_length.Goals as goal

pub length_of-requires : goal.length_of-requires
length_of-requires c = let f = accepted_few _ _ (sym c.in_ok-tried.ensures) in (f.0, f.1, f.3)
