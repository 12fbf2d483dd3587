-- Request 7: settings changed while a converter is open.
use Rattle.std.specs.Prelude.{◌≡◌, Result, List, [], ◌∷◌, ◌++◌, true, cond}
use Rattle.reference.specs.Settings.{converter_of, held_settings, true_numbers}
use Rattle.reference.specs.Refusals.{accepted, is_accepted, Place, decide, decision, wanted_places, opening_places, held_places}
use Rattle.reference.specs.Promises.{by_decision}
use Rattle.reference.specs.declared.PcmRate.{PcmRate}
use Rattle.reference.specs.declared.Cutoff.{Cutoff}
use Rattle.reference.specs.declared.Gain.{Gain}
use Rattle.reference.specs.declared.Settings.{Settings}
use Rattle.reference.specs.declared.Converter.{Converter}
use Rattle.reference.specs.declared.PcmError.{PcmError}

-- what a change wants
pub record Change : Type 0 where
  pub rate : PcmRate
  pub cutoff : Cutoff
  pub gain : Gain

abbrev pub change : PcmRate → Cutoff → Gain → Change
change r c g = record { rate = r; cutoff = c; gain = g }

-- settings with what is wanted in place of their rate, cutoff and gain
unfoldable pub with_wanted : Settings → Change → Settings
with_wanted s w = record { rate = w.rate; cutoff = w.cutoff; channels = s.channels; gain = w.gain; filter = s.filter }

-- the record as held, then what is wanted
unfoldable pub change_places : Converter → Change → List Place
change_places conv w = held_places conv ++ wanted_places w.rate w.cutoff w.gain

-- accepted, a change gives what opening gives for the wanted settings, the held channels and the held filter; refused,
-- the record as held
unfoldable pub changed : Converter → Change → Converter
changed conv w = by_decision (decide (change_places conv w)) (converter_of (with_wanted (held_settings conv) w)) conv

-- a call on the record conv, which is conv' then
pub record ChangePromise (conv : Converter) (w : Change) (conv' : Converter) (answer : Result (Unit {0}) PcmError) : Type 0 where
  pub decided : decision answer ≡ decide (change_places conv w)
  pub converter : conv' ≡ changed conv w

-- ---- any list of changes

-- the record held after them
unfoldable pub after_changes : Converter → List Change → Converter
after_changes conv [] = conv
after_changes conv (w ∷ ws) = after_changes (changed conv w) ws

-- the last accepted settings: those of the opening where no change was accepted
unfoldable pub last_accepted : Settings → List Change → Settings
last_accepted s [] = s
last_accepted s (w ∷ ws) = last_accepted (cond (is_accepted (decide (change_places (converter_of s) w))) (with_wanted s w) s) ws

-- from an opened converter, after any changes, refused ones included, the record held is what opening gives for the
-- last accepted settings, its stored numbers are true, and it passes every place that a record is tried by, 15 among
-- them. Proved in proofs/Changes
abbrev pub ChangesKeep : Type 0
ChangesKeep =
    (s : Settings) → decide (opening_places s) ≡ accepted → (ws : List Change)
    → (after_changes (converter_of s) ws ≡ converter_of (last_accepted s ws)) × (true_numbers (after_changes (converter_of s) ws) ≡ true)
    × (decide (held_places (after_changes (converter_of s) ws)) ≡ accepted)
