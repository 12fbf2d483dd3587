-- A change that is accepted, and one that is refused.
use Rattle.std.proofs.Common.{◌≡◌, sym, ap, ◌∙◌, Ok, Err}
use Rattle.reference.specs.Settings.{converter_of, held_settings}
use Rattle.reference.specs.Refusals.{accepted, is_accepted, error_decision, decide}
use Rattle.reference.specs.Changes.{Change, with_wanted, change_places, changed, ChangePromise}
use Rattle.reference.specs.declared.Converter.{Converter}
use Rattle.reference.specs.declared.PcmError.{PcmError}
use Rattle.reference.proofs.Refusals.{error_refuses}
use Rattle.reference.proofs.Promises.{exit_accepted, exit_refused}

module _ (conv : Converter) (w : Change) where
  pub changed_promise : (conv' : Converter) → accepted ≡ decide (change_places conv w) → conv' ≡ converter_of (with_wanted (held_settings conv) w) → ChangePromise conv w conv' (Ok tt)
  unfolding changed
  changed_promise conv' e h = record { decided = e; converter = h ∙ sym (exit_accepted _ _ _ (sym e)) }

  pub kept_promise : (e : PcmError) → error_decision e ≡ decide (change_places conv w) → ChangePromise conv w conv (Err e)
  unfolding changed
  kept_promise e h = record { decided = h; converter = sym (exit_refused _ _ _ (ap is_accepted (sym h) ∙ error_refuses e)) }
