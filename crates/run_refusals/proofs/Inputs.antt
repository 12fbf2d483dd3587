-- What a run's lengths decide, place by place: `input`'s returns follow from these, whichever tests the code makes.
use Rattle.std.proofs.Common.{◌≡◌, refl, sym, ap, ◌∙◌, List, [], ◌∷◌, ◌++◌, append-nil, Bool, true, false, cond, not, ℕ, ◌%◌, ◌/◌, ◌<◌, arith, ne_eqb, eq-eqb}
use Rattle.std.proofs.Common.{eqb, length, Option, Some, None}
use Rattle.reference.specs.Frames.{run, frame_length, frame_count}
use Rattle.reference.specs.inner.Frames.{if_there}
use Rattle.reference.specs.Refusals.{Decision, accepted, refused, number, error_decision, Place, decide, held_places, input_places, run_length, too_many, one_long, if_present}
use Rattle.reference.specs.declared.Converter.{Converter}
use Rattle.reference.specs.declared.Limit.{Limit}
use Rattle.reference.specs.declared.PcmError.{PcmError}
use Rattle.reference.proofs.Refusals.{at_first, at_next, at_end, some_channel, stored_frame}
use Rattle.run_refusals.specs.inner.Lengths.{wrong_length}
use Rattle.converters.proofs.Steps.{stops, goes_on}

-- the stored length is a frame's, and not 0
pub some_size : (conv : Converter) → decide (held_places conv) ≡ accepted → 0 < conv.frame_length
some_size conv h = omega (arith, stored_frame conv h, some_channel conv h)

-- a neighbour's place, by its wrong length
module _ (refusal channels : ℕ) (bytes : List ℕ) (ps : List Place) where
  abbrev placed-at : Bool → Decision
  placed-at there = decide (if_present there (one_long refusal [] channels bytes) ++ ps)

  abbrev found : Bool → Option ℕ
  found there = wrong_length (frame_length channels) (if_there there bytes)

  wrong_found : (there : Bool) (n : ℕ) → found there ≡ Some n → placed-at there ≡ refused refusal (number n ∷ [])
  unfolding wrong_length if_there if_present one_long
  wrong_found false n e = let z : ◌≡◌ {A = ℕ} 0 1 = cc in absurd (omega arith)
  wrong_found true n e = go (eqb (length bytes) (frame_length channels)) refl e
    where
      go : (b : Bool) → eqb (length bytes) (frame_length channels) ≡ b → cond b None (Some (length bytes)) ≡ Some n
          → decide (one_long refusal [] channels bytes ∷ ps) ≡ refused refusal (number n ∷ [])
      go true t f = let z : ◌≡◌ {A = ℕ} 0 1 = cc in absurd (omega arith)
      go false t f = let l : length bytes ≡ n = cc in at_first _ _ (ap not t) ∙ ap (λ m. refused refusal (number m ∷ [])) l

  none_found : (there : Bool) → found there ≡ None → placed-at there ≡ decide ps
  unfolding wrong_length if_there if_present one_long
  none_found false e = refl
  none_found true e = go (eqb (length bytes) (frame_length channels)) refl e
    where
      go : (b : Bool) → eqb (length bytes) (frame_length channels) ≡ b → cond b None (Some (length bytes)) ≡ None → decide (one_long refusal [] channels bytes ∷ ps) ≡ decide ps
      go true t f = at_next _ _ (ap not t)
      go false t f = let z : ◌≡◌ {A = ℕ} 0 1 = cc in absurd (omega arith)

module _ (whose : Limit) (conv : Converter) (hb : Bool) (b f : List ℕ) (ha : Bool) (a : List ℕ) (held : decide (held_places conv) ≡ accepted) where
  abbrev placed : Decision
  placed = decide (input_places whose conv (run hb b f ha a))

  abbrev more : List Place
  more = too_many whose (length f / conv.frame_length) ∷ []

  abbrev counted : List Place
  counted = too_many whose (frame_count conv.channels f) ∷ []

  abbrev neighbours : List Place
  neighbours = if_present hb (one_long 13 [] conv.channels b) ++ if_present ha (one_long 14 [] conv.channels a)

  same : decide more ≡ decide counted
  unfolding frame_count
  same = ap (λ (k : ℕ). decide (too_many whose (length f / k) ∷ [])) (stored_frame conv held)

  pub part_frame : (length f % conv.frame_length ≡ 0 → ⊥) → refused 4 (number (length f) ∷ number 0 ∷ []) ≡ placed
  unfolding input_places run_length
  part_frame h = sym (at_first _ _ (ap not (ne_eqb _ _ (λ q. h (rw (stored_frame conv held) q)))))

  module _ (whole : length f % conv.frame_length ≡ 0) where
    past_whole : placed ≡ decide (counted ++ neighbours)
    unfolding input_places run_length
    past_whole = at_next _ _ (ap not (eq-eqb _ _ (ap (λ (k : ℕ). length f % k) (sym (stored_frame conv held)) ∙ whole)))

    pub too_long : (e : PcmError) → error_decision e ≡ decide more → error_decision e ≡ placed
    too_long e d = stops counted neighbours e (d ∙ same) ∙ sym past_whole

    module _ (d : accepted ≡ decide more) where
      past_length : placed ≡ decide neighbours
      past_length = past_whole ∙ sym (goes_on counted neighbours (d ∙ same) refl)

      pub long_before : (n : ℕ) → wrong_length conv.frame_length (if_there hb b) ≡ Some n → refused 13 (number n ∷ []) ≡ placed
      long_before n e = sym (past_length ∙ wrong_found 13 conv.channels b _ hb n (rw (stored_frame conv held) at e))

      module _ (g : wrong_length conv.frame_length (if_there hb b) ≡ None) where
        past_before : placed ≡ decide (if_present ha (one_long 14 [] conv.channels a) ++ [])
        past_before = past_length ∙ none_found 13 conv.channels b _ hb (rw (stored_frame conv held) at g) ∙ ap decide (sym (append-nil _))

        pub long_after : (n : ℕ) → wrong_length conv.frame_length (if_there ha a) ≡ Some n → refused 14 (number n ∷ []) ≡ placed
        long_after n e = sym (past_before ∙ wrong_found 14 conv.channels a [] ha n (rw (stored_frame conv held) at e))

        pub right_input : wrong_length conv.frame_length (if_there ha a) ≡ None → accepted ≡ placed
        right_input e = sym (past_before ∙ none_found 14 conv.channels a [] ha (rw (stored_frame conv held) at e) ∙ at_end)
