use Rattle.std.proofs.Common.{refl, sym, ◌∙◌}
use Rattle.tracks_plan.proofs.Pieces.{piece_within}
use Rattle.c_tracks.proofs.Opened.{none_read}
use Rattle.c_tracks.proofs.planning.put_piece.Goals as goal

pub returns-in_default-clause-asked : goal.returns-in_default-clause-asked
returns-in_default-clause-asked c =
    let a = c.args in
    none_read a.tracks.heads.now a.tracks.lengths.now a.album a.piece c.fill.new.self (sym c.in_default.ensures) (c.fill.ensures.after (λ y h. h) ∙ rw c.requires.lent refl)

pub reads-window-requires : goal.reads-window-requires
reads-window-requires c =
    let r = c.requires in
    record { sized = r.sized; fits = r.fits; frames = r.frames; within = piece_within c.args.album c.args.piece c.in-Some.p c.in-Some.ensures; lent = r.lent }
