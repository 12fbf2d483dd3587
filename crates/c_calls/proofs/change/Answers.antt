use Rattle.std.proofs.Common.{sym, refl, ◌≡◌}
use Rattle.reference.specs.Changes.{change}
use Rattle.codes.proofs.Known.{some_known}
use Rattle.codes.proofs.Calls.{both_hold, done_so}
use Rattle.c_calls.specs.Calls.{CWanted, c_wanted, change_of}
use Rattle.c_calls.proofs.Done.{change_done}
use Rattle.c_calls.proofs.change.Goals as goal

pub returns : goal.returns
returns c =
    let r = some_known _ _ _ (sym c.in-Some.ensures) in
    let f = some_known _ _ _ (sym c.in-Some-cutoff_of.ensures) in
    let k = some_known _ _ _ (sym c.in-Some-converter.ensures) in
    let a = c.args in
    let w : CWanted = c_wanted a.rate a.cutoff a.wanted.now in
    let v : change_of w ≡ change c.in-Some.rate c.in-Some-cutoff_of.cutoff c.gain_of.result = rw (r.1, f.1, c.gain_of.ensures) refl in
    done_so (both_hold _ _ (both_hold _ _ r.0 f.0) k.0)
    (change_done _ w c.in-Some-converter.conv c.change-made.new.conv _ c.change-made.result k.1 v c.change-made.ensures c.tell_change.ensures.told_whole
    c.tell_change.ensures.numbers_after c.tell_change.ensures.gain_after)
