use Rattle.std.proofs.Common.{◌+◌, Some, take}
use Rattle.text.specs.inner.Reading.{NumberRead}
use Rattle.text.proofs.reading.number.Given as goal

-- what was read so far is a number
abbrev pub invariant-loop-byte : goal.invariant-loop-byte
invariant-loop-byte l = NumberRead (take (l.byte-index + 1) l.text) (Some l.n)
