-- What is asked, as the code has it.
use Rattle.c_converter.specs.Blocks.{converter_lists}
use Rattle.c_tracks.specs.declared.asked.Asked as code
use Rattle.c_tracks.specs.Asked.{Asked, asked}

-- as the code has it
abbrev pub as_asked : code.Asked → Asked
as_asked a = asked (converter_lists a.numbers.now a.gain.now a.taps.now) a.tracks.heads.now a.tracks.lengths.now
