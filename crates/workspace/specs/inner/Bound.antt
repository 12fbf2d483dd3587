-- The taps that are bound once a call.
use Rattle.std.specs.Prelude.{List, ℤ, take}
use Rattle.workspace.specs.declared.taps.Taps.{Taps}

abbrev pub bound : Taps → List ℤ
bound t = take t.count t.values
