-- What is tried of each track.
use Rattle.std.proofs.Common.{◌≡◌, Ok, Err, ℕ, ◌+◌, ◌/◌, ◌≤◌, ◌<◌, ◌≢◌, List, [], ◌∷◌, sym, refl, ap, ◌∙◌, Result, lt-ltb, le-ltb, ne_eqb, eq-eqb, not}
use Rattle.std.specs.Result.{result_and}
use Rattle.reference.specs.Refusals.{Place, Decision, accepted, error_decision, decision, decide}
use Rattle.reference.specs.declared.Settings.{Settings}
use Rattle.reference.specs.declared.PcmError.{PcmError}
use Rattle.reference.specs.declared.PcmError.TheVariants.{Frames, NotDsf}
use Rattle.reference.proofs.Refusals.{at_first, at_next, at_end}
use Rattle.refusals.proofs.Steps.{stops, goes_on, one_after}
use Rattle.dsf.specs.Reading.{OpenedPromise, header_places, file_header}
use Rattle.dsf.specs.declared.DsfHeader.{DsfHeader}
use Rattle.dsf.proofs.Accepted.{head_channels}
use Rattle.tracks.specs.Tracks.{head_length, frames_of_bytes, too_long, first_places, next_places}
use Rattle.tracks_open.specs.inner.Trying.{a_head, opened_places, other_type, joined_places, FirstTried, NextTried}

pub too_many_frames : (p f : ℕ) → f ≡ frames_of_bytes p → 540000 < f → error_decision (Frames f) ≡ decide (too_long p ∷ [])
too_many_frames p f e h = rw e (sym (at_first _ _ (lt-ltb 540000 (frames_of_bytes p) (rw e at h))))

pub few_frames : (p f : ℕ) → f ≡ frames_of_bytes p → f ≤ 540000 → accepted ≡ decide (too_long p ∷ [])
few_frames p f e h = sym (at_next _ _ (le-ltb 540000 (frames_of_bytes p) (rw e at h)) ∙ at_end)

-- ---- the first

module _ (head : List ℕ) (n : ℕ) (s : Settings) where
  pub first_stops : (e : PcmError) → OpenedPromise (header_places head n) head (Err e) → FirstTried (a_head head n) s (Err e)
  unfolding first_places
  first_stops e p = record { decided = stops (header_places head n) _ e p.decided; header = _ }

  module _ (o : DsfHeader) (p : OpenedPromise (header_places head n) head (Ok o)) where
    pub few_channels : o.channels ≤ 6
    unfolding file_header
    few_channels = rw p.header (head_channels head n (sym p.decided)).1

    after : (d : Decision) → d ≡ decide (opened_places s o) → d ≡ decide (first_places (a_head head n) s)
    unfolding first_places file_header head_length
    after d e = goes_on (header_places head n) (opened_places s (file_header head)) p.decided (rw p.header at e)

    pub first_refused : (e : PcmError) → error_decision e ≡ decide (opened_places s o) → FirstTried (a_head head n) s (Err e)
    first_refused e d = record { decided = after (error_decision e) d; header = _ }

    pub first_taken : accepted ≡ decide (opened_places s o) → FirstTried (a_head head n) s (Ok o)
    first_taken d = record { decided = after accepted d; header = p.header }

-- ---- another

pub another_type : (type k : ℕ) → k ≢ type → error_decision NotDsf ≡ decide (other_type type k ∷ [])
another_type type k h = sym (at_first _ _ (ap not (ne_eqb k type h)))

pub same_type : (type k : ℕ) → k ≡ type → accepted ≡ decide (other_type type k ∷ [])
same_type type k h = sym (at_next _ _ (ap not (eq-eqb k type h)) ∙ at_end)

pub two_places : (p q : Place) {A B : Type 0} (a : Result A PcmError) (b : Result B PcmError) → decision a
    ≡ decide (p ∷ []) → decision b ≡ decide (q ∷ []) → decision (result_and a b) ≡ decide (p ∷ q ∷ [])
two_places p q a b h k = one_after (p ∷ []) (q ∷ []) a b h k

module _ (head : List ℕ) (n type before : ℕ) where
  pub next_stops : (e : PcmError) → OpenedPromise (header_places head n) head (Err e) → NextTried (a_head head n) type before (Err e)
  unfolding next_places
  next_stops e p = record { decided = stops (header_places head n) _ e p.decided; end = _ }

  module _ (o : DsfHeader) (p : OpenedPromise (header_places head n) head (Ok o)) where
    later : (d : Decision) → d ≡ decide (joined_places type (before + o.samples / 8) o) → d ≡ decide (next_places type (before + head_length (a_head head n)) (a_head head n))
    unfolding next_places file_header head_length
    later d e = goes_on (header_places head n) _ p.decided (rw p.header at e)

    pub next_refused : (e : PcmError) → error_decision e ≡ decide (joined_places type (before + o.samples / 8) o) → NextTried (a_head head n) type before (Err e)
    next_refused e d = record { decided = later (error_decision e) d; end = _ }

    pub next_taken : accepted ≡ decide (joined_places type (before + o.samples / 8) o) → NextTried (a_head head n) type before (Ok (before + o.samples / 8))
    unfolding file_header head_length
    next_taken d = record { decided = later accepted d; end = rw p.header refl }
