-- Changes keep what opening gives; a change's promise leaves nothing free.
use Rattle.std.proofs.Common.{◌≡◌, refl, ap, sym, ◌∙◌, Result, List, [], ◌∷◌, Bool, cond}
use Rattle.reference.specs.Settings.{converter_of, filter_of, held_settings}
use Rattle.reference.specs.Refusals.{Decision, accepted, refused, is_accepted, decide, wanted_places, filter_places, opening_places, held_places}
use Rattle.reference.specs.Promises.{by_decision}
use Rattle.reference.specs.Changes.{Change, with_wanted, change_places, changed, ChangePromise, after_changes, last_accepted, ChangesKeep}
use Rattle.reference.specs.declared.Settings.{Settings}
use Rattle.reference.specs.declared.Converter.{Converter}
use Rattle.reference.specs.declared.PcmError.{PcmError}
use Rattle.reference.proofs.Refusals.{at_next, pass, decide_skip}
use Rattle.reference.proofs.Promises.{decision_exact}
use Rattle.reference.proofs.Opening.{opened_true, held_as_opened}

module _ (s : Settings) (opens : decide (opening_places s) ≡ accepted) (w : Change) where
  -- an opened converter is tried by the wanted settings alone
  wanted_alone : decide (change_places (converter_of s) w) ≡ decide (wanted_places w.rate w.cutoff w.gain)
  unfolding change_places
  wanted_alone = decide_skip (held_places (converter_of s)) _ (held_as_opened s ∙ opens)

  kept_filter : converter_of (with_wanted (held_settings (converter_of s)) w) ≡ converter_of (with_wanted s w)
  unfolding converter_of with_wanted filter_of
  kept_filter = refl

  -- channels and filter were accepted before
  wanted_opens : decide (wanted_places w.rate w.cutoff w.gain) ≡ accepted → decide (opening_places (with_wanted s w)) ≡ accepted
  unfolding opening_places filter_of with_wanted
  wanted_opens ok =
      let first = pass _ _ opens in
      let later = (pass _ _ (pass _ _ first.1).1).1 in
      at_next _ _ first.0 ∙ (decide_skip (wanted_places w.rate w.cutoff w.gain) (filter_places (filter_of s)) ok ∙ later)

  settled : Bool → Settings
  settled b = cond b (with_wanted s w) s

  step : (d : Decision) → decide (change_places (converter_of s) w) ≡ d
      → (changed (converter_of s) w ≡ converter_of (settled (is_accepted d))) × (decide (opening_places (settled (is_accepted d))) ≡ accepted)
  unfolding changed by_decision is_accepted settled
  step accepted e = (rw e kept_filter, wanted_opens (sym wanted_alone ∙ e))
  step (refused n c) e = (rw e refl, opens)

after_held : (s : Settings) → decide (opening_places s) ≡ accepted → (ws : List Change)
    → (after_changes (converter_of s) ws ≡ converter_of (last_accepted s ws)) × (decide (opening_places (last_accepted s ws)) ≡ accepted)
unfolding after_changes last_accepted settled
after_held s ok [] = (refl, ok)
after_held s ok (w ∷ ws) =
    let next = step s ok w (decide (change_places (converter_of s) w)) refl in
    let later = after_held (settled s ok w (is_accepted (decide (change_places (converter_of s) w)))) next.1 ws in
    (ap (λ (c : Converter). after_changes c ws) next.0 ∙ later.0, later.1)

pub changes_keep : ChangesKeep
changes_keep s ok ws =
    let h = after_held s ok ws in
    (h.0, rw h.0 (opened_true (last_accepted s ws)), rw h.0 (held_as_opened (last_accepted s ws) ∙ h.1))

pub change_exact : (conv : Converter) (w : Change) (c c' : Converter) (a b : Result (Unit {0}) PcmError) → ChangePromise conv w c a → ChangePromise conv w c' b → (a ≡ b) × (c ≡ c')
change_exact conv w c c' a b p q = (decision_exact a b (p.decided ∙ sym q.decided), p.converter ∙ sym q.converter)
