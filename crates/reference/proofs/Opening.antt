-- The converter that opening gives is tried as the settings are: its stored numbers are true.
use Rattle.std.proofs.Common.{◌≡◌, refl, ap, List, [], ◌∷◌, ◌++◌, true, false, cond, not, ℕ, eq-eqb, eqb}
use Rattle.reference.specs.Frames.{frame_length}
use Rattle.reference.specs.Stages.{taps_of, reach}
use Rattle.reference.specs.Output.{samples_per_frame}
use Rattle.reference.specs.Settings.{converter_of, filter_of, true_numbers}
use Rattle.reference.specs.Refusals.{Place, refused, decide, opening_places, held_places}
use Rattle.reference.specs.declared.Settings.{Settings}

same : (n : ℕ) → eqb n n ≡ true
same n = eq-eqb n n refl

pub opened_true : (s : Settings) → true_numbers (converter_of s) ≡ true
unfolding converter_of true_numbers
opened_true s =
    rw (same (samples_per_frame s.rate), same (reach s.rate s.cutoff (taps_of (filter_of s))), same (frame_length s.channels))

-- a last place that does not hold does not show
passed_last : (ps : List Place) (p : Place) → p.holds ≡ false → decide (ps ++ (p ∷ [])) ≡ decide ps
unfolding decide
passed_last [] p e = rw e
passed_last (q ∷ qs) p e = ap (cond q.holds (refused q.refusal q.carried)) (passed_last qs p e)

pub held_as_opened : (s : Settings) → decide (held_places (converter_of s)) ≡ decide (opening_places s)
unfolding held_places converter_of opening_places filter_of
held_as_opened s = passed_last (opening_places s) _ (ap not (opened_true s))
