use Rattle.c_calls.proofs.Done.{gain_done}
use Rattle.c_calls.proofs.gain.Goals as goal

pub returns : goal.returns
returns c = gain_done c.from_db.ensures c.tell_gain.ensures.told c.tell_gain.ensures.gain_after
