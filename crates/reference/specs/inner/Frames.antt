-- Bytes that need not be there.
use Rattle.std.specs.Prelude.{Option, Some, None, List, Bool, true, false, ℕ}

-- bytes that need not be there
unfoldable pub if_there : Bool → List ℕ → Option (List ℕ)
if_there true bytes = Some bytes
if_there false bytes = None
