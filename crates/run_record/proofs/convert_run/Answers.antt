-- `convert_run` meets its contract.
use Rattle.std.proofs.lemmas.Result.{err_from_is_err_and}
use Rattle.run_record.proofs.Answers.{samples_promise, samples_refused}
use Rattle.run_record.proofs.convert_run.Goals as goal

pub returns-in_err-run_call : goal.returns-in_err-run_call
returns-in_err-run_call c =
    let p = err_from_is_err_and c.from_residual.result c.from_residual.ensures.1 in
    rw (p.1, p.2) (samples_refused _ c.args.conv _ c.in_err-run_call.field-0.0 c.in_err-run_call.ensures c.args.out.now)

pub returns : goal.returns
returns c = samples_promise _ c.args.conv _ c.in_ok-run_call.ensures c.converted.result c.converted.ensures.value c.args.out.now _ c.converted.ensures.out_after
