-- The tracks behind the first, one after the other.
use Rattle.std.proofs.Common.{◌≡◌, Ok, Err, false, ℕ, ◌+◌, ◌-◌, ◌≤◌, ◌<◌, List, ◌∷◌, length, flat_map, sym, refl, ap, ◌∙◌, arith, ltb-false}
use Rattle.numbers.specs.Lists.{tabulate}
use Rattle.reference.specs.Refusals.{Place, accepted, is_accepted, decide}
use Rattle.reference.specs.declared.PcmError.{PcmError}
use Rattle.reference.proofs.Refusals.{at_end, pass, decide_first, decide_skip, error_refuses}
use Rattle.refusals.proofs.Steps.{stops}
use Rattle.dsf.specs.Reading.{header_places}
use Rattle.tracks.specs.Tracks.{Head, head_at, head_length, all_length, frames_of_bytes, next_places, rest_places, refused_from}
use Rattle.tracks_open.proofs.Heads.{front}
use Rattle.tracks_open.specs.inner.Trying.{NextTried, heads_from, later_places, RestTried}

abbrev pub flat : List (List Place) → List Place
flat ps = flat_map (λ p. p) ps

-- before track k all is taken, which ends at so many bytes of each channel: the tracks from it on decide
pub record SoFar (heads lengths : List ℕ) (type before k end : ℕ) : Type 0 where
  pub decides : decide (flat (later_places heads lengths type before 1)) ≡ decide (flat (later_places heads lengths type end k))
  pub names : refused_from 1 (later_places heads lengths type before 1) ≡ refused_from k (later_places heads lengths type end k)
  pub ends : before + all_length (heads_from heads lengths 1) ≡ end + all_length (heads_from heads lengths k)
  pub few : end ≤ 2540160000

-- a track that is taken makes few frames
pub few_bytes : (h : Head) (type end : ℕ) → decide (next_places type end h) ≡ accepted → end ≤ 2540160000
unfolding next_places frames_of_bytes
few_bytes h type end e =
    let later = sym (decide_skip (header_places h.bytes h.long) _ (decide_first (header_places h.bytes h.long) _ e)) ∙ e in
    let held = (pass _ _ (pass _ _ later).1).0 in
    omega (arith, ltb-false 540000 (frames_of_bytes end) held)

module _ (heads lengths : List ℕ) (type before : ℕ) where
  pub none_yet : before ≤ 2540160000 → SoFar heads lengths type before 1 before
  none_yet h = record { decides = refl; names = refl; ends = refl; few = h }

  module _ (k end : ℕ) (s : SoFar heads lengths type before k end) where
    pub all_taken : length lengths ≤ k → RestTried heads lengths type before (Ok end)
    unfolding tabulate rest_places all_length
    all_taken h =
        let z : length lengths - k ≡ 0 = omega arith in
        record {
          decided = sym at_end ∙ sym (s.decides ∙ rw z refl);
          named = _;
          end = sym (s.ends ∙ rw z (omega arith));
          few = s.few;
        }

    module _ (within : k < length lengths) where
      abbrev h : Head
      h = head_at heads lengths k

      rest_is : later_places heads lengths type end k ≡ next_places type (end + head_length h) h ∷ later_places heads lengths type (end + head_length h) (k + 1)
      unfolding rest_places
      rest_is = rw (front heads lengths k within) refl

      pub one_refused : (e : PcmError) → NextTried h type end (Err e) → RestTried heads lengths type before (Err (record { track = k; error = e }))
      unfolding refused_from
      one_refused e t =
          let no : is_accepted (decide (next_places type (end + head_length h) h)) ≡ false = ap is_accepted (sym t.decided) ∙ error_refuses e in
          record {
            decided = stops (next_places type (end + head_length h) h) (flat (later_places heads lengths type (end + head_length h) (k + 1))) e t.decided ∙ sym (s.decides ∙ rw rest_is refl);
            named = sym (s.names ∙ rw (rest_is, no) refl);
            end = _;
            few = _;
          }

      pub one_more : (p : ℕ) → NextTried h type end (Ok p) → SoFar heads lengths type before (k + 1) p
      unfolding refused_from all_length is_accepted
      one_more p t =
          let q : p ≡ end + head_length h = t.end in
          let yes : decide (next_places type (end + head_length h) h) ≡ accepted = sym t.decided in
          record {
            decides = s.decides ∙ rw (rest_is, q) (decide_skip (next_places type (end + head_length h) h) (flat (later_places heads lengths type (end + head_length h) (k + 1))) yes);
            names = s.names ∙ rw (rest_is, yes, q) refl;
            ends = s.ends ∙ rw (front heads lengths k within, q) (omega arith);
            few = rw q (few_bytes h type (end + head_length h) yes);
          }
