use Rattle.std.proofs.Common.{sym, rules}
use Rattle.std.proofs.lemmas.Result.{err_from_is_err_and}
use Rattle.dsf_write.proofs.Writing.{accepted_few, head_down, head_given}
use Rattle.dsf_write.proofs.head.Goals as goal

pub returns-in_err-tried : goal.returns-in_err-tried
returns-in_err-tried c =
    let p = err_from_is_err_and c.from_residual.result c.from_residual.ensures.1 in
    rw (p.1, p.2) (head_down _ _ _ _ c.in_err-tried.ensures)

pub put_head-requires : goal.put_head-requires
put_head-requires c = let f = accepted_few _ _ (sym c.in_ok-tried.ensures) in (f.0, f.1, f.3, search rules)

pub returns : goal.returns
returns c = head_given _ _ _ (sym c.in_ok-tried.ensures) c.told-out c.put_head.ensures
