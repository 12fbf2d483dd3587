use Rattle.std.proofs.Common.{◌≡◌, ◌+◌, length, eqb, true, sym, ap, ℕ, [], ◌∷◌, eq-eqb}
use Rattle.codes.proofs.Calls.{done_so, both_hold}
use Rattle.codes.proofs.Known.{some_known}
use Rattle.c_tracks.specs.Asked.{asked_heads}
use Rattle.c_tracks.specs.inner.Asked.{as_asked}
use Rattle.c_tracks.specs.Calls.{outputs}
use Rattle.c_tracks.proofs.Known.{lists_fit}
use Rattle.c_tracks.proofs.Opened.{open_done}
use Rattle.c_tracks.proofs.opening.open.Goals as goal

pub open-opened-requires : goal.open-opened-requires
open-opened-requires c = lists_fit (as_asked c.args.asked) (some_known _ _ _ (sym c.in-Some.ensures)).0

pub put_marks-requires : goal.put_marks-requires
put_marks-requires c = (lists_fit (as_asked c.args.asked) (some_known _ _ _ (sym c.in-Some.ensures)).0, c.open-opened.ensures, c.if-marks-asked.false)

pub returns : goal.returns
returns c =
    let a = c.args in
    let k = some_known _ _ _ (sym c.in-Some.ensures) in
    let room : eqb (length a.marks.now) (length a.asked.tracks.lengths.now + 1) ≡ true = eq-eqb _ _ c.if-marks-asked.false in
    let old = outputs a.album.now a.marks.now a.track.now a.«data».now a.decibels.now in
    let new = outputs c.tell_album.new.list c.put_marks.new.marks (c.named.result ∷ []) c.tell.new.«data» c.tell.new.decibels in
    done_so (both_hold _ _ k.0 room)
    (rw k.1 (open_done (asked_heads (as_asked a.asked)) c.in-Some.settings c.open-opened.result c.open-opened.ensures old new
    (rw c.reason.ensures at c.tell.ensures) (ap (λ (k : ℕ). k ∷ []) c.named.ensures) c.tell_album.ensures c.put_marks.ensures))
