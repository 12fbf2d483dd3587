-- What the first line leads to.
use Rattle.std.specs.Prelude.{◌≡◌, Option, Some, None, ◌≤◌}
use Rattle.reference.specs.Refusals.{accepted, decide, held_places}
use Rattle.reference.specs.declared.Converter.{Converter}

-- an accepted converter of one or two channels, or nothing
abbrev pub Usable : Option Converter → Type 0
Usable (Some conv) = (decide (held_places conv) ≡ accepted) × (conv.channels ≤ 2)
Usable None = Unit {0}
