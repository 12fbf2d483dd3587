use Rattle.c_dsf.proofs.Done.{length_done}
use Rattle.c_dsf.proofs.length.Goals as goal

pub returns : goal.returns
returns c = length_done _ _ c.file_length.result c.file_length.ensures c.tell_length.ensures.told_data c.tell_length.ensures.size_after
