use Rattle.std.proofs.Common.{◌≡◌, ◌-◌, sym, ◌∙◌, arith}
use Rattle.std.proofs.lemmas.Result.{err_from_is_err_and}
use Rattle.dsf_write.specs.Written.{written_data}
use Rattle.dsf_write.proofs.Writing.{accepted_writable, length_is, laid_down, laid_wrong, laid_given}
use Rattle.dsf_write.proofs.lay_out.Goals as goal

pub returns-in_err-expected : goal.returns-in_err-expected
returns-in_err-expected c =
    let p = err_from_is_err_and c.from_residual.result c.from_residual.ensures.1 in
    rw (p.1, p.2) (laid_down _ _ _ _ c.in_err-expected.ensures.decided)

pub overflow_sub-expected : goal.overflow_sub-expected
overflow_sub-expected c = omega (arith, c.in_ok-expected.ensures.sized, length_is c.args.channels c.args.frames.now)

pub returns-then-out-expected : goal.returns-then-out-expected
returns-then-out-expected c =
    let told = c.in_ok-expected.ensures in
    let size : c.in_ok-expected.field-0 - 92 ≡ written_data c.args.channels c.args.frames.now = omega (arith, told.sized, length_is c.args.channels c.args.frames.now) in
    rw size (laid_wrong _ _ _ (sym told.decided) (rw size at c.if-out-expected.true))

pub fill_laid-requires : goal.fill_laid-requires
fill_laid-requires c =
    let told = c.in_ok-expected.ensures in
    (accepted_writable _ _ (sym told.decided), c.if-out-expected.false ∙ omega (arith, told.sized, length_is c.args.channels c.args.frames.now))

pub returns : goal.returns
returns c =
    let told = c.in_ok-expected.ensures in
    laid_given _ _ _ (sym told.decided) (c.if-out-expected.false ∙ omega (arith, told.sized, length_is c.args.channels c.args.frames.now)) c.fill_laid.ensures
