-- `digest`: one byte more, and none left.
use Rattle.std.proofs.Common.{sym, ap, ◌∙◌}
use Rattle.std.proofs.lemmas.List.{at_drop_more, drop_all}
use Rattle.test_support.specs.inner.Answers.{digest_on}
use Rattle.test_support.proofs.bytes.digest.Goals as goal

pub loop-b-preserved : goal.loop-b-preserved
unfolding digest_on
loop-b-preserved c =
    let l = c.loop-b in
    rw c.from.ensures (sym (at_drop_more (digest_on l.h) c.args.bytes.now l.b-index 0 c.loop-b-test.true) ∙ l.invariant)

pub returns : goal.returns
unfolding digest_on
returns c =
    let l = c.loop-b in
    sym (ap (digest_on l.h) (drop_all l.b-index c.args.bytes.now c.loop-b-test.false)) ∙ l.invariant
