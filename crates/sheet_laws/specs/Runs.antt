-- Request 14, of the sheets of runs. Proved in proofs/Runs.
use Rattle.std.specs.Prelude.{◌≡◌, false, List, map, ℕ, ◌≤◌, T, length}
use Rattle.std.specs.Float.{binary64}
use Rattle.std.specs.Float.Ieee.{fits}
use Rattle.reference.specs.Frames.{Run}
use Rattle.reference.specs.Output.{stats}
use Rattle.reference.specs.Statistics.{no_stats, all_joined}
use Rattle.reference.specs.Refusals.{decide, refusal_number}
use Rattle.reference.specs.Promises.{stats_told}
use Rattle.reference.specs.declared.Converter.{Converter}
use Rattle.joins.specs.Joins.{Call, answer_of, accepted_calls, AcceptedConverter, AcceptedRun, JoinTo}
use Rattle.stretches.specs.Joining.{joined_on}
use Rattle.sheet.specs.Sheet.{sheet, sheet_too_wide}
use Rattle.sheet.specs.Promises.{sheet_places}

-- as every program holds a converter: the factor is a binary64, and the filter's array has 117 places
abbrev pub ConverterHeld : Converter → Type 0
ConverterHeld conv = T (fits binary64 conv.gain.linear) × (length conv.filter.taps ≡ 117)

-- every number that an accepted run can give fits its column, whichever channels are printed
abbrev pub NumbersFit : Type 0
NumbersFit =
    (conv : Converter) (r : Run) → ConverterHeld conv → AcceptedConverter conv → AcceptedRun conv r → (channels : ℕ) → channels ≤ 6
    → sheet_too_wide channels (stats conv r) ≡ false

-- so the sheet of its statistics is never refused 20
abbrev pub NeverTooWide : Type 0
NeverTooWide =
    (conv : Converter) (r : Run) → ConverterHeld conv → AcceptedConverter conv → AcceptedRun conv r → (channels n : ℕ)
    → refusal_number (decide (sheet_places channels (stats conv r) n)) ≡ 20 → ⊥

-- for a list as in demand 3: joined one after the other, the calls' statistics are the whole run's, so that their sheet
-- is its sheet, and is refused just where that is
pub record SheetOfRun {conv : Converter} (r : Run) (calls : List (Call conv)) (channels : ℕ) : Type 0 where
  pub from_first : joined_on no_stats (map (λ call. stats_told (answer_of call)) (accepted_calls calls)) ≡ stats conv r
  pub same_text : sheet channels (all_joined (map (λ call. stats_told (answer_of call)) (accepted_calls calls))) ≡ sheet channels (stats conv r)
  pub same_decision : (n : ℕ) → decide (sheet_places channels (all_joined (map (λ call. stats_told (answer_of call)) (accepted_calls calls))) n) ≡ decide (sheet_places channels (stats conv r) n)

abbrev pub CutSheetsJoin : Type 0
CutSheetsJoin =
    (conv : Converter) (r : Run) (calls : List (Call conv)) → AcceptedConverter conv → AcceptedRun conv r → JoinTo r calls → (channels : ℕ)
    → SheetOfRun r calls channels
