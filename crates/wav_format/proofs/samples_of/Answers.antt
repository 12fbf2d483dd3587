use Rattle.std.proofs.Common.{◌-◌, ◌≤◌, length, drop, ◌∙◌, arith, length-drop, take_all}
use Rattle.wav_format.proofs.Reading.{long}
use Rattle.wav_format.proofs.Writing.{told_takes, samples_there, samples_none}
use Rattle.wav_format.proofs.samples_of.Goals as goal

pub slice_bounds-result-count : goal.slice_bounds-result-count
slice_bounds-result-count c = long c.args.file.now (told_takes c.args.file.now c.in-Ok.ensures)

pub slice_bounds-result-start : goal.slice_bounds-result-start
slice_bounds-result-start c = long c.args.file.now (told_takes c.args.file.now c.in-Ok.ensures)

pub returns-in-Ok : goal.returns-in-Ok
returns-in-Ok c =
    let file = c.args.file.now in
    let n : length (drop 44 file) ≤ length file - 44 = omega (arith, length-drop 44 file) in
    take_all (length file - 44) (drop 44 file) n ∙ samples_there file (told_takes file c.in-Ok.ensures)

pub returns-in-Err : goal.returns-in-Err
returns-in-Err c = samples_none c.args.file.now c.in-Err.ensures
