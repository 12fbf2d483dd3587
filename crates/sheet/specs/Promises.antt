-- Where a sheet is turned down, and what the call promises.
use Rattle.std.specs.Prelude.{◌≡◌, Result, List, [], ◌∷◌, not, ◌&&◌, ℕ, ◌+◌, ◌*◌, leb, length}
use Rattle.reference.specs.Refusals.{Place, place, number, decide, decision, lent_length}
use Rattle.reference.specs.Promises.{by_decision}
use Rattle.reference.specs.declared.ConvertStats.{ConvertStats}
use Rattle.reference.specs.declared.PcmError.{PcmError}
use Rattle.sheet.specs.Sheet.{sheet, sheet_too_wide}

-- the length of a sheet: a line of 43 for each channel, and the last
unfoldable pub sheet_length : ℕ → ℕ
sheet_length channels = 43 * (channels + 1)

-- n is the length of the lent output
unfoldable pub sheet_places : ℕ → ConvertStats → ℕ → List Place
sheet_places channels stats n =
    place (not (leb 1 channels && leb channels 6)) 1 (number channels ∷ [])
    ∷ lent_length 7 n (sheet_length channels)
    ∷ place (sheet_too_wide channels stats) 20 []
    ∷ []

-- `out` is the lent output at entry, `out'` at exit
pub record SheetPromise (channels : ℕ) (stats : ConvertStats) (out out' : List ℕ) (answer : Result (Unit {0}) PcmError) : Type 0 where
  pub decided : decision answer ≡ decide (sheet_places channels stats (length out))
  pub written : out' ≡ by_decision (decide (sheet_places channels stats (length out))) (sheet channels stats) out
