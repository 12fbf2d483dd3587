-- What a conversion goes by once its call is accepted.
use Rattle.std.specs.Prelude.{◌≡◌, List, [], Bool, true, false, ℕ}
use Rattle.reference.specs.Frames.{Run}
use Rattle.reference.specs.Refusals.{rack, accepted, decide, held_places, input_places}
use Rattle.reference.specs.declared.Converter.{Converter}

-- what its places before the output's lengths find: an accepted converter and an accepted run
pub record AcceptedCall (conv : Converter) (r : Run) : Type 0 where
  pub opens : decide (held_places conv) ≡ accepted
  pub fits : decide (input_places rack conv r) ≡ accepted

-- a neighbour's slice, or an empty one where it is absent
unfoldable pub present : Bool → List ℕ → List ℕ
present true bytes = bytes
present false bytes = []
