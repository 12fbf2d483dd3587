-- What the level report prints of every input.
use Rattle.std.specs.Prelude.{◌≡◌, List, ℕ, Option}
use Rattle.std.specs.Io.KnownBytes.{Appends}
use Rattle.reference.specs.Settings.{converter_of}
use Rattle.reference.specs.Refusals.{decide, refusal_number, opening_places}
use Rattle.reference.specs.Promises.{by_decision}
use Rattle.reference.specs.declared.PcmRate.TheVariants.{Hz88200}
use Rattle.reference.specs.declared.Cutoff.TheVariants.{Wide}
use Rattle.level_lines.specs.Lines.{refused_line}
use Rattle.level_settings.specs.Settings.{InRange}
use Rattle.level_settings.specs.declared.LineSettings.{LineSettings}
use Rattle.level_start.specs.Begun.{read_settings, after_line, refused_settings}
use Rattle.level_frames.specs.Report.{lines_of, text_by}

-- what is printed of settings and the bytes after their line: the refusal of a converter that does not open stands
-- alone
unfoldable pub report_text : LineSettings → List ℕ → List ℕ
report_text s input =
    let conv = converter_of (read_settings s) in
    let opened = decide (opening_places (read_settings s)) in
    by_decision opened (text_by conv input (lines_of conv input)) (refused_line (refusal_number opened))

-- the text of an input: of settings in range and what follows their line, the report of these; of any other input, that
-- its settings are refused
pub record PrintsReport (input printed : List ℕ) : Type 0 where
  pub settings : (s : LineSettings) (rest : List ℕ) → InRange s → input ≡ after_line s rest → printed ≡ report_text s rest
  pub other : ((s : LineSettings) (rest : List ℕ) → InRange s → input ≡ after_line s rest → ⊥) → printed ≡ refused_settings

-- of an input whose line one reader gives, and what follows the line another
abbrev pub FollowsLine : List ℕ → List ℕ → Type 0
FollowsLine input rest = (s : LineSettings) (more : List ℕ) → InRange s → input ≡ after_line s more → more ≡ rest

-- the text of a line and frames that two readers give: that of any input which begins with the same line, or as they
-- with none, and goes on with the frames
pub record PrintsApart (first rest printed : List ℕ) : Type 0 where
  pub settings : (s : LineSettings) (more : List ℕ) → InRange s → first ≡ after_line s more → PrintsReport (after_line s rest) printed
  pub other : ((s : LineSettings) (more : List ℕ) → InRange s → first ≡ after_line s more → ⊥) → PrintsReport first printed

-- what `report` promises of all that its two readers give: the text is appended
pub record ReportAppended (first rest : List ℕ) (held held' : Option (List ℕ)) : Type 0 where
  pub printed : List ℕ
  pub prints : PrintsApart first rest printed
  pub wrote : Appends held held' printed

-- ---- theorems, proved in proofs/Prints

-- where both read one input, the text is that input's: `one_input`
abbrev pub OneInput : Type 0
OneInput = (input rest printed : List ℕ) → FollowsLine input rest → PrintsApart input rest printed → PrintsReport input printed

-- no input has two texts: `one_text`
abbrev pub OneText : Type 0
OneText = (input a b : List ℕ) → PrintsReport input a → PrintsReport input b → a ≡ b

-- wide at 88,200 Hz fits the line, and its refusal stands alone: `wide_refused`
abbrev pub WideRefused : Type 0
WideRefused =
    (s : LineSettings) → InRange s → s.rate ≡ Hz88200 → s.cutoff ≡ Wide → (rest printed : List ℕ) → PrintsReport (after_line s rest) printed
    → printed ≡ refused_line 2
