use Rattle.std.proofs.Common.{◌≡◌, true, take}
use Rattle.dsf_upload.specs.Deciding.{hopeful}
use Rattle.dsf_upload.proofs.answer.Given as goal

abbrev pub invariant-loop-k : goal.invariant-loop-k
invariant-loop-k l = hopeful (take l.k l.head) ≡ true
