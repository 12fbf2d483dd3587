use Rattle.tracks_open.proofs.Trying.{next_taken}
use Rattle.tracks_open.proofs.next.Goals as goal

pub returns : goal.returns
returns c = next_taken _ _ _ _ c.in_ok-header.header (rw c.in_ok-header.was at c.read_header.ensures) (rw c.in_ok-joined.was at c.joined.ensures)
