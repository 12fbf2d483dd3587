-- What each refusal of a lent list says of its place.
use Rattle.std.proofs.Common.{◌≡◌, sym, ap, ◌∙◌, List, ◌∷◌, not, ℕ, ◌≤◌, arith, ne_eqb, eq-eqb}
use Rattle.reference.specs.Frames.{Run, frame_count}
use Rattle.reference.specs.Refusals.{Decision, accepted, error_decision, Place, decide, input_places, lent_length}
use Rattle.reference.specs.declared.Converter.{Converter}
use Rattle.reference.specs.declared.Limit.{Limit}
use Rattle.reference.specs.declared.PcmError.TheVariants as error
use Rattle.reference.proofs.Refusals.{at_first, at_next, few_frames, rack_most}
pub use Rattle.converters.proofs.Steps.{stops, goes_on, first_stops, past_first, one_after, nothing}

pub few_enough : (whose : Limit) (conv : Converter) (r : Run) → accepted ≡ decide (input_places whose conv r) → frame_count conv.channels r.frames ≤ 540000
few_enough whose conv r e = omega (arith, few_frames whose conv r (sym e), rack_most whose)

-- ---- lent lists

module _ (n expected : ℕ) (ps : List Place) where
  pub wrong_items : (n ≡ expected → ⊥) → error_decision (error.OutputLength n expected) ≡ decide (lent_length 6 n expected ∷ ps)
  unfolding lent_length
  wrong_items h = sym (at_first _ _ (ap not (ne_eqb _ _ h)))

  pub wrong_bytes : (n ≡ expected → ⊥) → error_decision (error.OutputBytes n expected) ≡ decide (lent_length 7 n expected ∷ ps)
  unfolding lent_length
  wrong_bytes h = sym (at_first _ _ (ap not (ne_eqb _ _ h)))

  pub wrong_counts : (n ≡ expected → ⊥) → error_decision (error.FrameCounts n expected) ≡ decide (lent_length 8 n expected ∷ ps)
  unfolding lent_length
  wrong_counts h = sym (at_first _ _ (ap not (ne_eqb _ _ h)))

  pub right_length : (k : ℕ) {d : Decision} → n ≡ expected → d ≡ decide ps → d ≡ decide (lent_length k n expected ∷ ps)
  unfolding lent_length
  right_length k h e = e ∙ sym (at_next _ _ (ap not (eq-eqb _ _ h)))
