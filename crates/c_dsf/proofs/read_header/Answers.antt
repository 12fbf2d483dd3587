use Rattle.c_dsf.proofs.Done.{read_done}
use Rattle.c_dsf.proofs.read_header.Goals as goal

pub returns : goal.returns
returns c = read_done _ _ c.read_header.result c.read_header.ensures c.tell_header.ensures.told_data c.tell_header.ensures.header_after
