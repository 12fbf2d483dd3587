use Rattle.std.proofs.Common.{◌≡◌, ◌*◌, length, eqb, true, sym, eq-eqb}
use Rattle.codes.proofs.Calls.{done_so, both_hold}
use Rattle.codes.proofs.Known.{some_known}
use Rattle.c_tracks.specs.Asked.{asked_heads}
use Rattle.c_tracks.specs.inner.Asked.{as_asked}
use Rattle.c_tracks.proofs.Known.{lists_fit}
use Rattle.c_tracks.proofs.Opened.{plan_args, piece_told, piece_refused}
use Rattle.c_tracks.proofs.planning.piece.Goals as goal

pub open-requires : goal.open-requires
open-requires c = lists_fit (as_asked c.args.asked) (some_known _ _ _ (sym c.in-Some.ensures)).0

pub put_piece-requires : goal.put_piece-requires
put_piece-requires c =
    let t = c.args.asked.tracks in
    plan_args t.heads.now t.lengths.now (lists_fit (as_asked c.args.asked) (some_known _ _ _ (sym c.in-Some.ensures)).0) c.in-Some.settings c.in-Ok.album c.in-Ok.ensures _ c.if-reads-asked.false

pub returns-in-Ok : goal.returns-in-Ok
returns-in-Ok c =
    let a = c.args in
    let k = some_known _ _ _ (sym c.in-Some.ensures) in
    let room : eqb (length a.reads.now) (2 * length a.asked.tracks.lengths.now) ≡ true = eq-eqb _ _ c.if-reads-asked.false in
    done_so (both_hold _ _ k.0 room)
    (rw k.1 (piece_told (asked_heads (as_asked a.asked)) c.in-Some.settings c.in-Ok.album c.in-Ok.ensures a.piece
    a.plan.now c.put_piece.new.plan a.reads.now c.put_piece.new.reads c.put_piece.ensures.written c.put_piece.ensures.asked))

pub returns-in-Err : goal.returns-in-Err
returns-in-Err c =
    let a = c.args in
    let k = some_known _ _ _ (sym c.in-Some.ensures) in
    let room : eqb (length a.reads.now) (2 * length a.asked.tracks.lengths.now) ≡ true = eq-eqb _ _ c.if-reads-asked.false in
    done_so (both_hold _ _ k.0 room)
    (rw k.1 (piece_refused (asked_heads (as_asked a.asked)) c.in-Some.settings c.in-Err.refused c.in-Err.ensures a.piece a.plan.now a.reads.now c.number.ensures))
