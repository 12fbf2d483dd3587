use Rattle.std.proofs.Common.{sym, ◌∙◌}
use Rattle.std.proofs.lemmas.Result.{err_from_is_err_and}
use Rattle.dsf_write.proofs.Writing.{accepted_writable, given, turned_down, wrong_output}
use Rattle.dsf_write.proofs.write.Goals as goal

pub returns-in_err-expected : goal.returns-in_err-expected
returns-in_err-expected c =
    let p = err_from_is_err_and c.from_residual.result c.from_residual.ensures.1 in
    rw (p.1, p.2) (turned_down _ _ _ _ c.in_err-expected.ensures.decided)

pub returns-then-out-expected : goal.returns-then-out-expected
returns-then-out-expected c =
    let told = c.in_ok-expected.ensures in
    rw told.sized (wrong_output _ _ _ (sym told.decided) (rw told.sized at c.if-out-expected.true))

pub fill-requires : goal.fill-requires
fill-requires c =
    let told = c.in_ok-expected.ensures in
    (accepted_writable _ _ (sym told.decided), c.if-out-expected.false ∙ told.sized)

pub returns : goal.returns
returns c =
    let told = c.in_ok-expected.ensures in
    given _ _ _ (sym told.decided) (c.if-out-expected.false ∙ told.sized) c.fill.ensures
