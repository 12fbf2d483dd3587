use Rattle.std.proofs.Common.{sym}
use Rattle.codes.proofs.Calls.{done_so}
use Rattle.codes.proofs.Known.{some_known}
use Rattle.c_tracks.specs.Asked.{asked_heads}
use Rattle.c_tracks.specs.inner.Asked.{as_asked}
use Rattle.c_tracks.proofs.Known.{lists_fit}
use Rattle.c_tracks.proofs.Stepped.{frames_done}
use Rattle.c_tracks.proofs.stepping.frames.Goals as goal

pub frames-made-requires : goal.frames-made-requires
frames-made-requires c = lists_fit (as_asked c.args.asked) (some_known _ _ _ (sym c.in-Some.ensures)).0

pub returns : goal.returns
returns c =
    let a = c.args in
    let k = some_known _ _ _ (sym c.in-Some.ensures) in
    let made = c.frames-made in
    done_so k.0
    (rw k.1 (frames_done (asked_heads (as_asked a.asked)) c.in-Some.settings a.first a.count a.windows.now
    a.scratch.now made.new.scratch made.result made.ensures (rw c.reason.ensures at c.tell.ensures)))
