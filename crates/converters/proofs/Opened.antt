-- The promise of an opening that is accepted or refused.
use Rattle.std.proofs.Common.{◌≡◌, refl, ◌∙◌, Ok, Err}
use Rattle.reference.specs.Refusals.{accepted, error_decision, decide, opening_places}
use Rattle.reference.specs.Settings.{converter_of}
use Rattle.reference.specs.Promises.{OpeningPromise}
use Rattle.reference.specs.declared.PcmError.{PcmError}
use Rattle.reference.specs.declared.Settings.{Settings}
use Rattle.reference.proofs.Promises.{apart}

module _ (s : Settings) where
  pub opened : accepted ≡ decide (opening_places s) → OpeningPromise s (Ok (converter_of s))
  opened e = record { decided = e; converter = λ h. refl }

  pub not_opened : (e : PcmError) → error_decision e ≡ decide (opening_places s) → OpeningPromise s (Err e)
  not_opened e h = record { decided = h; converter = λ k. apart e (h ∙ k) }
