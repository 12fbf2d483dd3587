-- The text of a line and frames that two readers give: what `start` has said, and the lines of the frames.
use Rattle.std.proofs.Common.{◌≡◌, refl, sym, ap, ◌∙◌, List, [], ℕ, ◌*◌, ◌<◌, arith, length, Option, Some, None, IfSome}
use Rattle.std.specs.Io.KnownBytes.{Appends}
use Rattle.reference.specs.Frames.{frame_length}
use Rattle.reference.specs.Settings.{converter_of}
use Rattle.reference.specs.Refusals.{Decision, accepted, refused, decide, held_places, opening_places, refusal_number}
use Rattle.reference.specs.Promises.{by_decision}
use Rattle.reference.specs.declared.Converter.{Converter}
use Rattle.reference.proofs.Promises.{exit_accepted}
use Rattle.reference.proofs.Refusals.{some_channel}
use Rattle.level_lines.specs.Lines.{refused_line}
use Rattle.level_settings.specs.declared.LineSettings.{LineSettings}
use Rattle.text.proofs.Options.{no_some, some_is}
use Rattle.level_input.proofs.Known.{appends_more}
use Rattle.level_start.specs.Begun.{read_settings}
use Rattle.level_start.specs.inner.Begun.{leads_to, said, InputRead, Starts}
use Rattle.level_frames.specs.Report.{lines_of, text_by}
use Rattle.level_stream.specs.Printed.{report_text, ReportAppended}
use Rattle.level_stream.proofs.Prints.{text_of, text_of_none, refused_alone}

-- no converter: what was said is all
nothing_opened : (first rest : List ℕ) (held held' : Option (List ℕ)) → Starts first None held held' → ReportAppended first rest held held'
unfolding by_decision leads_to said
nothing_opened first rest held held' b = go b.first b.read b.leads b.wrote
  where
    by_decided : (s : LineSettings) (d : Decision) → decide (opening_places (read_settings s)) ≡ d → InputRead first (Some s)
        → None ≡ by_decision d (Some (converter_of (read_settings s))) None → Appends held held' (by_decision d [] (refused_line (refusal_number d))) → ReportAppended first rest held held'
    by_decided s accepted e read leads wrote = no_some leads
    by_decided s (refused n x) e read leads wrote =
        record { printed = refused_line n; prints = text_of first s rest read (refused_line n) (sym (refused_alone s rest e)); wrote = wrote }

    go : (set : Option LineSettings) → InputRead first set → None ≡ leads_to set → Appends held held' (said set) → ReportAppended first rest held held'
    go None read leads wrote = record { printed = _; prints = text_of_none first rest read; wrote = wrote }
    go (Some s) read leads wrote = by_decided s (decide (opening_places (read_settings s))) refl read leads wrote

-- a converter: nothing was said, and the lines of the frames are all
opened : (first rest : List ℕ) (conv : Converter) (held held' held'' : Option (List ℕ)) → Starts first (Some conv) held held'
    → Appends held' held'' (text_by conv rest (lines_of conv rest)) → ReportAppended first rest held held''
unfolding by_decision report_text leads_to said
opened first rest conv held held' held'' b lines = go b.first b.read b.leads b.wrote
  where
    by_decided : (s : LineSettings) (d : Decision) → decide (opening_places (read_settings s)) ≡ d → InputRead first (Some s)
        → Some conv ≡ by_decision d (Some (converter_of (read_settings s))) None → Appends held held' (by_decision d [] (refused_line (refusal_number d))) → ReportAppended first rest held held''
    by_decided s accepted e read leads wrote =
        let same : conv ≡ converter_of (read_settings s) = some_is leads in
        let text : text_by conv rest (lines_of conv rest) ≡ report_text s rest =
        ap (λ c. text_by c rest (lines_of c rest)) same ∙ sym (exit_accepted _ _ _ e) in
        record {
          printed = text_by conv rest (lines_of conv rest);
          prints = text_of first s rest read _ text;
          wrote = appends_more held held' held'' [] (text_by conv rest (lines_of conv rest)) wrote lines;
        }
    by_decided s (refused n x) e read leads wrote = no_some (sym leads)

    go : (set : Option LineSettings) → InputRead first set → Some conv ≡ leads_to set → Appends held held' (said set) → ReportAppended first rest held held''
    go None read leads wrote = no_some (sym leads)
    go (Some s) read leads wrote = by_decided s (decide (opening_places (read_settings s))) refl read leads wrote

abbrev Ends : Option (List ℕ) → Option (List ℕ) → Option (List ℕ) → Option (List ℕ) → Type 0
Ends from more held held' =
    IfSome from (λ first. IfSome more (λ rest. length rest < 100000000000000 * frame_length 1 → ReportAppended first rest held held'))

pub ends_at_once : (from more held held' : Option (List ℕ)) → IfSome from (λ input. Starts input None held held') → Ends from more held held'
ends_at_once None more held held' b = tt
ends_at_once (Some first) None held held' b = tt
ends_at_once (Some first) (Some rest) held held' b = λ short. nothing_opened first rest held held' b

pub ends_with_frames : (conv : Converter) (from more held held' held'' : Option (List ℕ)) → decide (held_places conv) ≡ accepted → IfSome from (λ input. Starts input (Some conv) held held')
    → IfSome more (λ input. length input < 100000000000000 * frame_length conv.channels → Appends held' held'' (text_by conv input (lines_of conv input))) → Ends from more held held''
ends_with_frames conv None more held held' held'' opens b lines = tt
ends_with_frames conv (Some first) None held held' held'' opens b lines = tt
ends_with_frames conv (Some first) (Some rest) held held' held'' opens b lines = λ short.
    opened first rest conv held held' held'' b (lines (omega (arith, short, some_channel conv opens)))
