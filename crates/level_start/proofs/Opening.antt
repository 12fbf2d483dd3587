-- The converter that opens with a line's settings.
use Rattle.std.proofs.Common.{◌≡◌, sym, ap, subst, ◌∙◌, false, List, ℕ, ◌≤◌, Result, Ok, Err, Option, Some, None}
use Rattle.std.specs.Io.KnownBytes.{Appends}
use Rattle.reference.specs.Refusals.{accepted, decide, held_places, is_accepted, refusal_number, error_decision, opening_places}
use Rattle.reference.specs.Settings.{converter_of}
use Rattle.reference.specs.Promises.{OpeningPromise}
use Rattle.reference.specs.declared.Converter.{Converter}
use Rattle.reference.specs.declared.PcmError.{PcmError}
use Rattle.reference.proofs.Opening.{held_as_opened}
use Rattle.reference.proofs.Promises.{exit_accepted, exit_refused}
use Rattle.reference.proofs.Refusals.{error_refuses}
use Rattle.level_lines.specs.Lines.{refused_line}
use Rattle.level_start.specs.Begun.{read_settings}
use Rattle.level_start.specs.inner.Begun.{leads_to, said}
use Rattle.level_input.proofs.Known.{appends_none}
use Rattle.level_settings.specs.declared.LineSettings.{LineSettings}

given : Converter → Result Converter PcmError → Converter
given d (Ok c) = c
given d (Err e) = d

few_channels : (s : LineSettings) → s.channels ≤ 2 → (converter_of (read_settings s)).channels ≤ 2
unfolding converter_of read_settings
few_channels s l = l

pub usable : (s : LineSettings) (conv : Converter) → s.channels ≤ 2 → OpeningPromise (read_settings s) (Ok conv) → (decide (held_places conv) ≡ accepted) × (conv.channels ≤ 2)
unfolding given
usable s conv l p =
    let ok = sym p.decided in
    let same : conv ≡ converter_of (read_settings s) = ap (given conv) (p.converter ok) in
    rw same (held_as_opened (read_settings s) ∙ ok, few_channels s l)

-- what is answered and said of the settings that a line reads as
pub leads : (s : LineSettings) (conv : Converter) → OpeningPromise (read_settings s) (Ok conv) → Some conv ≡ leads_to (Some s)
unfolding given leads_to
leads s conv p = let ok = sym p.decided in sym (exit_accepted _ _ _ ok ∙ ap Some (sym (ap (given conv) (p.converter ok))))

pub says_nothing : (s : LineSettings) (conv : Converter) (held : Option (List ℕ)) → OpeningPromise (read_settings s) (Ok conv) → Appends held held (said (Some s))
unfolding said
says_nothing s conv held p = subst (Appends held held) (sym (exit_accepted _ _ _ (sym p.decided))) (appends_none held)

refuses : (s : LineSettings) (e : PcmError) → OpeningPromise (read_settings s) (Err e) → is_accepted (decide (opening_places (read_settings s))) ≡ false
refuses s e p = ap is_accepted (sym p.decided) ∙ error_refuses e

pub leads_nowhere : (s : LineSettings) (e : PcmError) → OpeningPromise (read_settings s) (Err e) → None ≡ leads_to (Some s)
unfolding leads_to
leads_nowhere s e p = sym (exit_refused _ _ _ (refuses s e p))

pub says_refused : (s : LineSettings) (e : PcmError) (n : ℕ) (held held' : Option (List ℕ)) → OpeningPromise (read_settings s) (Err e) → n ≡ refusal_number (error_decision e)
    → Appends held held' (refused_line n) → Appends held held' (said (Some s))
unfolding said
says_refused s e n held held' p same w =
    subst (Appends held held') (ap refused_line (same ∙ ap refusal_number p.decided) ∙ sym (exit_refused _ _ _ (refuses s e p))) w
