-- `numbers_of`: the numbers so far, and those that end in what is left.
use Rattle.std.proofs.Common.{◌≡◌, ◌++◌, drop}
use Rattle.test_support.specs.inner.Answers.{numbers_behind}
use Rattle.test_support.proofs.rows.numbers_of.Given as goal

abbrev pub invariant-loop-b : goal.invariant-loop-b
invariant-loop-b l = l.all.items ++ numbers_behind l.n (drop l.b-index l.text) ≡ numbers_behind 0 l.text
