-- Places tried one list after the other, and what each refusal of a converter says of its place.
use Rattle.std.proofs.Common.{◌≡◌, refl, sym, ap, ◌∙◌, List, [], ◌∷◌, ◌++◌, true, ◌≤◌, ◌<◌, ne_eqb, eq-eqb, eqb, Result, Ok, Err}
use Rattle.std.specs.Result.{result_and}
use Rattle.reference.specs.Output.{samples_per_frame}
use Rattle.reference.specs.Settings.{filter_of, converter_of, held_settings, reach_of, true_numbers}
use Rattle.reference.specs.Refusals.{Decision, accepted, is_accepted, error_decision, decision, Place, decide, wanted_places, filter_places, opening_places}
use Rattle.reference.specs.declared.Settings.{Settings}
use Rattle.reference.specs.declared.Converter.{Converter}
use Rattle.reference.specs.declared.PcmError.{PcmError}
use Rattle.reference.specs.declared.PcmError.TheVariants as error
use Rattle.reference.proofs.Refusals.{at_first, at_next, at_end, below_range, above_range, in_range, decide_skip, decide_stop, error_refuses}

-- ---- one list after the other

module _ (ps qs : List Place) where
  -- a refusal stands
  pub stops : (e : PcmError) → error_decision e ≡ decide ps → error_decision e ≡ decide (ps ++ qs)
  stops e p = p ∙ sym (decide_stop ps qs (ap is_accepted (sym p) ∙ error_refuses e))

  -- past an acceptance the later places decide
  pub goes_on : {d : Decision} → accepted ≡ decide ps → d ≡ decide qs → d ≡ decide (ps ++ qs)
  goes_on p q = q ∙ sym (decide_skip ps qs (sym p))

pub nothing : accepted ≡ decide []
nothing = sym at_end

-- one place, then others
module _ (p : Place) (ps : List Place) where
  pub first_stops : (e : PcmError) → error_decision e ≡ decide (p ∷ []) → error_decision e ≡ decide (p ∷ ps)
  first_stops e h = stops (p ∷ []) ps e h

  pub past_first : {d : Decision} → accepted ≡ decide (p ∷ []) → d ≡ decide ps → d ≡ decide (p ∷ ps)
  past_first h g = goes_on (p ∷ []) ps h g

-- the first refusal of two answers
pub one_after : (ps qs : List Place) {A B : Type 0} (a : Result A PcmError) (b : Result B PcmError) → decision a ≡ decide ps → decision b ≡ decide qs
    → decision (result_and a b) ≡ decide (ps ++ qs)
one_after ps qs (Ok x) b p q = goes_on ps qs p q
one_after ps qs (Err e) b p q = stops ps qs e p

-- ---- opening

module _ (s : Settings) where
  pub no_channels : s.channels < 1 → error_decision (error.Channels s.channels) ≡ decide (opening_places s)
  unfolding opening_places
  no_channels h = sym (at_first _ _ (below_range _ _ h))

  pub many_channels : 1 ≤ s.channels → 6 < s.channels → error_decision (error.Channels s.channels) ≡ decide (opening_places s)
  unfolding opening_places
  many_channels h k = sym (at_first _ _ (above_range _ _ h k))

  pub wanted_next : {A B : Type 0} (a : Result A PcmError) (b : Result B PcmError) → 1 ≤ s.channels → s.channels ≤ 6
      → decision a ≡ decide (wanted_places s.rate s.cutoff s.gain) → decision b ≡ decide (filter_places (filter_of s)) → decision (result_and a b) ≡ decide (opening_places s)
  unfolding opening_places
  wanted_next a b h k p q = one_after (wanted_places s.rate s.cutoff s.gain) (filter_places (filter_of s)) a b p q ∙ sym (at_next _ _ (in_range _ _ h k))

-- ---- the stored numbers, against those of the converter that the settings give

pub wrong_samples : (conv right : Converter) → right ≡ converter_of (held_settings conv) → (conv.samples_per_frame ≡ right.samples_per_frame → ⊥)
    → eqb conv.samples_per_frame right.samples_per_frame ≡ true_numbers conv
unfolding true_numbers converter_of
wrong_samples conv right is h =
    let e = ne_eqb conv.samples_per_frame right.samples_per_frame h in
    e ∙ rw (ap (λ (c : Converter). eqb conv.samples_per_frame c.samples_per_frame) (sym is) ∙ e) refl

module _ (conv right : Converter) (is : right ≡ converter_of (held_settings conv)) (samples : conv.samples_per_frame ≡ right.samples_per_frame) where
  samples_true : eqb conv.samples_per_frame (samples_per_frame conv.rate) ≡ true
  unfolding converter_of
  samples_true = eq-eqb _ _ (samples ∙ ap (λ (c : Converter). c.samples_per_frame) is)

  reach_is : eqb conv.reach right.reach ≡ eqb conv.reach (reach_of conv)
  unfolding converter_of filter_of
  reach_is = ap (λ (c : Converter). eqb conv.reach c.reach) is

  pub wrong_reach : (conv.reach ≡ right.reach → ⊥) → eqb conv.reach right.reach ≡ true_numbers conv
  unfolding true_numbers
  wrong_reach h =
      let e = ne_eqb conv.reach right.reach h in
      e ∙ rw (samples_true, sym reach_is ∙ e) refl

  pub all_true : conv.reach ≡ right.reach → eqb conv.frame_length right.frame_length ≡ true_numbers conv
  unfolding true_numbers converter_of
  all_true h = rw (samples_true, sym reach_is ∙ eq-eqb conv.reach right.reach h) (ap (λ (c : Converter). eqb conv.frame_length c.frame_length) is)
