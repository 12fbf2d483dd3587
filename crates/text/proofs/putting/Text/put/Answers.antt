-- `put`: the part that is written is the word.
use Rattle.std.proofs.Common.{refl, arith, rules}
use Rattle.text.proofs.Printing.{overwritten}
use Rattle.text.proofs.putting.Text.put.Goals as goal

pub returns : goal.returns
returns c = record { same_reference = refl; same_length = search rules; printed = overwritten _ _ _ c.copy_from_slice.ensures.after (omega arith) }
