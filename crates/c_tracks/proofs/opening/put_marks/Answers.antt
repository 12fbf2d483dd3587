use Rattle.c_tracks.proofs.Opened.{sized, few, marks_are}
use Rattle.c_tracks.proofs.opening.put_marks.Goals as goal

pub marks-requires : goal.marks-requires
marks-requires c =
    let t = c.args.tracks in
    let p = rw c.in-Ok.is at c.requires.1 in
    (sized t.heads.now t.lengths.now c.requires.0 c.args.settings c.in-Ok.a p, few t.heads.now t.lengths.now c.requires.0 c.args.settings c.in-Ok.a p, c.requires.2)

pub returns-in-Ok : goal.returns-in-Ok
returns-in-Ok c =
    let t = c.args.tracks in
    rw c.in-Ok.is (marks_are t.heads.now t.lengths.now c.args.settings.rate c.in-Ok.a.channels c.marks.new.out c.marks.ensures)
