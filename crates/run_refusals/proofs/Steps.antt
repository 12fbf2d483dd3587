-- What each refusal of a run's frames says of its place.
use Rattle.std.proofs.Common.{◌≡◌, sym, ap, ◌∙◌, List, [], ◌∷◌, not, ℕ, ◌*◌, ◌≤◌, ◌<◌, mul-le-mul, ne_eqb, eq-eqb, length}
use Rattle.reference.specs.Output.{samples_per_frame}
use Rattle.reference.specs.Refusals.{accepted, error_decision, decide, held_places, one_frame, one_long, too_many}
use Rattle.reference.specs.declared.Converter.{Converter}
use Rattle.reference.specs.declared.Limit.TheVariants as limit
use Rattle.reference.specs.declared.Length.TheVariants.{OneFrame}
use Rattle.reference.specs.declared.PcmError.TheVariants as error
use Rattle.reference.proofs.Refusals.{at_first, at_next, at_end, over, within, few_channels, stored_frame}
use Rattle.reference.proofs.Frames.{frame_samples}

module _ (n : ℕ) where
  pub over_rack : 540000 < n → error_decision (error.Frames n) ≡ decide (too_many limit.Rack n ∷ [])
  over_rack h = sym (at_first _ _ (over n limit.Rack h))

  pub over_desk : 8 < n → error_decision error.Desk ≡ decide (too_many limit.Desk n ∷ [])
  over_desk h = sym (at_first _ _ (over n limit.Desk h))

  pub within_rack : n ≤ 540000 → accepted ≡ decide (too_many limit.Rack n ∷ [])
  within_rack h = sym (at_next _ _ (within n limit.Rack h) ∙ at_end)

  pub within_desk : n ≤ 8 → accepted ≡ decide (too_many limit.Desk n ∷ [])
  within_desk h = sym (at_next _ _ (within n limit.Desk h) ∙ at_end)

module _ (conv : Converter) (opens : decide (held_places conv) ≡ accepted) where
  module _ (frames : List ℕ) where
    pub not_one : (length frames ≡ conv.frame_length → ⊥) → error_decision (error.InputLength (length frames) OneFrame) ≡ decide (one_frame conv.channels frames ∷ [])
    unfolding one_long
    not_one h = sym (at_first _ _ (ap not (ne_eqb _ _ (λ e. h (e ∙ sym (stored_frame conv opens))))))

    pub is_one : length frames ≡ conv.frame_length → accepted ≡ decide (one_frame conv.channels frames ∷ [])
    unfolding one_long
    is_one h = sym (at_next _ _ (ap not (eq-eqb _ _ (h ∙ stored_frame conv opens))) ∙ at_end)

  -- samples of a channel, and of all
  pub few_samples : (f : ℕ) → f ≤ 540000 → (f * samples_per_frame conv.rate ≤ 540000 * 4704) × (f * samples_per_frame conv.rate * conv.channels ≤ 540000 * 4704 * 6)
  few_samples f h =
      let a : f * samples_per_frame conv.rate ≤ 540000 * 4704 = mul-le-mul h (frame_samples conv.rate) in
      (a, mul-le-mul a (few_channels conv opens))
