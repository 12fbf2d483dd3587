use Rattle.std.proofs.Common.{List, ℕ, arith, ap, ◌∙◌}
use Rattle.dsf.specs.Dsf.{alike}
use Rattle.dsf.proofs.Alike.{agree_none, agree_more, differ, agree_all, rest_is}
use Rattle.dsf.proofs.fields.agrees.Goals as goal

pub loop-k-init : goal.loop-k-init
loop-k-init c = agree_none

pub loop-k-preserved : goal.loop-k-preserved
loop-k-preserved c = agree_more c.loop-k.invariant (omega arith) (omega arith) c.if-rest-k.false

pub returns-then-rest-k : goal.returns-then-rest-k
returns-then-rest-k c =
    let a = c.args in
    differ c.loop-k.invariant (omega arith) (omega arith) c.if-rest-k.true ∙ ap (λ (l : List ℕ). alike l a.value.now) (rest_is a.file.now a.start c.min.result c.min.ensures)

pub returns : goal.returns
returns c =
    let a = c.args in
    agree_all c.loop-k.invariant (omega arith) ∙ ap (λ (l : List ℕ). alike l a.value.now) (rest_is a.file.now a.start c.min.result c.min.ensures)
