use Rattle.std.proofs.Common.{arith}
use Rattle.std.proofs.lemmas.Result.{err_from_is_err_and}
use Rattle.wav_heading.proofs.Headed.{head_refused, head_wrong, head_written, head_fits}
use Rattle.wav_heading.proofs.header.Goals as goal

pub returns-in_err-such_file : goal.returns-in_err-such_file
returns-in_err-such_file c =
    let p = err_from_is_err_and c.from_residual.result c.from_residual.ensures.1 in
    rw (p.1, p.2) (head_refused _ _ _ _ _ c.in_err-such_file.ensures)

pub returns-then-out-ne44 : goal.returns-then-out-ne44
returns-then-out-ne44 c = head_wrong _ _ _ _ c.in_ok-such_file.ensures c.if-out-ne44.true

pub returns : goal.returns
returns c = head_written _ _ _ _ c.in_ok-such_file.ensures c.if-out-ne44.false c.put_header.ensures

pub put_header-requires : goal.put_header-requires
put_header-requires c =
    let fits = head_fits _ _ _ c.args.out.now c.in_ok-such_file.ensures in
    (fits.0, fits.1, omega (arith, c.if-out-ne44.false))
