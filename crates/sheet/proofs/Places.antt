-- A sheet's places, tried in turn.
use Rattle.std.proofs.Common.{◌≡◌, sym, ◌∙◌, ◌⊎◌, inl, inr, true, false, ◌&&◌, [], ◌∷◌, ℕ, ◌<◌, ◌≤◌, le-leb, eq-eqb, ne_eqb, leb-true, eqb-true, leb}
use mathlib.Core.Bool.{and-eq-true_iff}
use borrow.Author.Tests.{lt-leb, not-false}
use Rattle.reference.specs.Refusals.{accepted, refused, number, decide, lent_length}
use Rattle.reference.specs.declared.ConvertStats.{ConvertStats}
use Rattle.reference.proofs.Refusals.{at_first, at_next, at_end, pass}
use Rattle.sheet.specs.Sheet.{sheet_too_wide}
use Rattle.sheet.specs.Promises.{sheet_length, sheet_places}

module _ (channels : ℕ) (stats : ConvertStats) (n : ℕ) where
  pub wrong_channels : (channels < 1) ⊎ ((1 ≤ channels) × (6 < channels)) → refused 1 (number channels ∷ []) ≡ decide (sheet_places channels stats n)
  unfolding sheet_places
  wrong_channels (inl l) = sym (at_first _ _ (rw (lt-leb 1 channels l)))
  wrong_channels (inr m) = sym (at_first _ _ (rw (le-leb 1 channels m.0, lt-leb channels 6 m.1)))

  module _ (l : 1 ≤ channels) (m : channels ≤ 6) where
    pub wrong_length : (n ≡ sheet_length channels → ⊥) → refused 7 (number n ∷ number (sheet_length channels) ∷ []) ≡ decide (sheet_places channels stats n)
    unfolding sheet_places lent_length
    wrong_length h = sym (at_next _ _ (rw (le-leb 1 channels l, le-leb channels 6 m)) ∙ at_first _ _ (rw (ne_eqb n (sheet_length channels) h)))

    module _ (e : n ≡ sheet_length channels) where
      pub too_wide : sheet_too_wide channels stats ≡ true → refused 20 [] ≡ decide (sheet_places channels stats n)
      unfolding sheet_places lent_length
      too_wide h = sym (at_next _ _ (rw (le-leb 1 channels l, le-leb channels 6 m)) ∙ at_next _ _ (rw (eq-eqb n (sheet_length channels) e)) ∙ at_first _ _ h)

      pub all_right : sheet_too_wide channels stats ≡ false → accepted ≡ decide (sheet_places channels stats n)
      unfolding sheet_places lent_length
      all_right h = sym (at_next _ _ (rw (le-leb 1 channels l, le-leb channels 6 m)) ∙ at_next _ _ (rw (eq-eqb n (sheet_length channels) e)) ∙ at_next _ _ h ∙ at_end)

  -- what an accepted sheet has
  module _ (ok : decide (sheet_places channels stats n) ≡ accepted) where
    pub few : channels ≤ 6
    unfolding sheet_places
    few = leb-true channels 6 ((and-eq-true_iff (leb 1 channels) (leb channels 6)).0 (not-false (leb 1 channels && leb channels 6) (pass _ _ ok).0)).1

    pub long : n ≡ sheet_length channels
    unfolding sheet_places lent_length
    long = eqb-true n (sheet_length channels) (not-false _ (pass _ _ (pass _ _ ok).1).0)

    pub fits : sheet_too_wide channels stats ≡ false
    unfolding sheet_places
    fits = (pass _ _ (pass _ _ (pass _ _ ok).1).1).0
