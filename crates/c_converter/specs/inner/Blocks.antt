-- A converter and a run, as the code has them.
use Rattle.c_converter.specs.declared.Blocks.{Blocks}
use Rattle.c_converter.specs.declared.Input as code
use Rattle.c_converter.specs.Blocks.{CConverter, converter_lists, Input, input}

-- ---- what is read

-- as the code has it
abbrev pub as_converter : Blocks → CConverter
as_converter b = converter_lists b.numbers.now b.gain.now b.taps.now

-- ---- a run, and what there is beside its frames: 1 the frame before, 2 the frame after, 4 a list of counts

-- as the code has it
abbrev pub as_input : code.Input → Input
as_input i = input i.presence i.before.now i.frames.now i.after.now
