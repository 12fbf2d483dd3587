-- `digest`: the digest so far, with the bytes that are left.
use Rattle.std.proofs.Common.{◌≡◌, drop}
use Rattle.test_support.specs.inner.Answers.{digest_on}
use Rattle.test_support.proofs.bytes.digest.Given as goal

abbrev pub invariant-loop-b : goal.invariant-loop-b
invariant-loop-b l = digest_on l.h (drop l.b-index l.bytes) ≡ digest_on 0 l.bytes
