use Rattle.std.proofs.Common.{sym, subst}
use Rattle.sheet.specs.Promises.{SheetPromise}
use Rattle.codes.proofs.Known.{some_known}
use Rattle.codes.proofs.Calls.{done_so}
use Rattle.codes.proofs.Told.{told_written}
use Rattle.c_studio.proofs.level_sheet.Goals as goal

pub returns : goal.returns
returns c =
    let a = c.args in
    let k = some_known _ _ _ (sym c.in-Some.ensures) in
    let made = c.level_sheet in
    let p = subst (λ s. SheetPromise a.channels s a.out.now made.new.out made.result) (sym k.1) made.ensures in
    done_so k.0 (told_written made.result p.decided c.tell_data.ensures p.written)
