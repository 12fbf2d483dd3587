use Rattle.std.proofs.Common.{sym}
use Rattle.scarletbook_pcm.proofs.convert_parts.Goals as goal

pub returns-in-Some : goal.returns-in-Some
returns-in-Some c = rw (c.in-Some.is, sym c.record-run.ensures) c.convert.ensures
