-- The first track, and those behind it.
use Rattle.std.proofs.Common.{◌≡◌, Ok, Err, false, ℕ, ◌+◌, ◌-◌, ◌/◌, ◌≤◌, List, ◌∷◌, ◌++◌, length, get_or, take, sym, refl, ap, ◌∙◌, arith, ltb-false}
use Rattle.numbers.specs.Lists.{tabulate}
use Rattle.numbers.proofs.Lists.{tabulate_join}
use Rattle.reference.specs.Refusals.{Place, accepted, is_accepted, decide, opening_places}
use Rattle.reference.specs.declared.PcmError.{PcmError}
use Rattle.reference.specs.declared.Settings.{Settings}
use Rattle.reference.proofs.Refusals.{pass, decide_first, decide_skip, error_refuses}
use Rattle.refusals.proofs.Steps.{stops, goes_on}
use Rattle.dsf.specs.Dsf.{channels, channel_type}
use Rattle.dsf.specs.Reading.{header_places, file_header}
use Rattle.dsf.specs.declared.DsfHeader.{DsfHeader}
use Rattle.dsf.proofs.Accepted.{head_channels}
use Rattle.tracks.specs.Tracks.{Head, head_at, heads_of, head_length, all_length, frames_of_bytes, settings_for, tracks_channels}
use Rattle.tracks.specs.Tracks.{tracks_type, first_places, tracks_places, open_places, refused_from, refused_track}
use Rattle.tracks_open.specs.Open.{numbers, album_of}
use Rattle.tracks_open.specs.inner.Open.{OpenPromise}
use Rattle.tracks_open.specs.inner.Trying.{a_head, FirstTried, heads_from, later_places, RestTried}
use Rattle.tracks_open.specs.declared.Album.{Album}
use Rattle.tracks_open.specs.declared.Refused.{Refused}
use Rattle.tracks_open.proofs.Following.{flat}

-- what a first track has that is accepted
pub few_first : (h : Head) (s : Settings) → decide (first_places h s) ≡ accepted → (channels h.bytes ≤ 6) × (head_length h ≤ 2540160000)
unfolding first_places frames_of_bytes
few_first h s e =
    let head = decide_first (header_places h.bytes h.long) _ e in
    let later = sym (decide_skip (header_places h.bytes h.long) _ head) ∙ e in
    let opens = decide_first (opening_places (settings_for s (channels h.bytes))) _ later in
    let long = sym (decide_skip (opening_places (settings_for s (channels h.bytes))) _ opens) ∙ later in
    ((head_channels h.bytes h.long head).1, omega (arith, ltb-false 540000 (frames_of_bytes (head_length h)) (pass _ _ long).0))

module _ (heads lengths : List ℕ) (some : 1 ≤ length lengths) (s : Settings) where
  abbrev h : Head
  h = a_head (take 92 heads) (get_or lengths 0 0)

  abbrev hs : List Head
  hs = heads_of heads lengths

  heads_are : hs ≡ h ∷ heads_from heads lengths 1
  unfolding heads_of tabulate
  heads_are =
      let size : length lengths ≡ 1 + (length lengths - 1) = omega arith in
      ap (λ (n : ℕ). tabulate (head_at heads lengths) 0 n) size ∙ tabulate_join (head_at heads lengths) 0 1 (length lengths - 1)

  abbrev others : List (List Place)
  others = later_places heads lengths (channel_type h.bytes) (head_length h) 1

  places_are : open_places hs s ≡ first_places h s ++ flat others
  unfolding open_places tracks_places
  places_are = rw heads_are refl

  names_are : refused_track hs s ≡ refused_from 0 (first_places h s ∷ others)
  unfolding refused_track tracks_places
  names_are = rw heads_are refl

  pub first_stops : (e : PcmError) → FirstTried h s (Err e) → OpenPromise hs s (Err (record { track = 0; error = e }))
  unfolding refused_from
  first_stops e t =
      let no : is_accepted (decide (first_places h s)) ≡ false = ap is_accepted (sym t.decided) ∙ error_refuses e in
      record { decided = stops (first_places h s) (flat others) e t.decided ∙ sym (ap decide places_are); named = sym (names_are ∙ rw no refl); album = _ }

  module _ (o : DsfHeader) (t : FirstTried h s (Ok o)) where
    pub first_few : o.samples / 8 ≤ 2540160000
    unfolding file_header head_length
    first_few = rw t.header ((few_first h s (sym t.decided)).1)

    pub first_channels : o.channels ≤ 6
    unfolding file_header
    first_channels = rw t.header ((few_first h s (sym t.decided)).0)

    pub rest_stops : (e : Refused) → RestTried heads lengths o.channel_type (o.samples / 8) (Err e) → OpenPromise hs s (Err e)
    unfolding file_header head_length refused_from is_accepted
    rest_stops e r =
        let q : RestTried heads lengths (channel_type h.bytes) (head_length h) (Err e) = rw t.header at r in
        record {
          decided = goes_on (first_places h s) (flat others) t.decided q.decided ∙ sym (ap decide places_are);
          named = q.named ∙ sym (names_are ∙ rw (← t.decided) refl);
          album = _;
        }

    pub all_opened : (a : Album) (p : ℕ) → RestTried heads lengths o.channel_type (o.samples / 8) (Ok p) → a ≡ numbers s.rate o.channels o.channel_type p → OpenPromise hs s (Ok a)
    unfolding file_header head_length album_of tracks_channels tracks_type all_length
    all_opened a p r e =
        let q : RestTried heads lengths (channel_type h.bytes) (head_length h) (Ok p) = rw t.header at r in
        record {
          decided = goes_on (first_places h s) (flat others) t.decided q.decided ∙ sym (ap decide places_are);
          named = _;
          album = e ∙ rw (t.header, q.end, heads_are) refl;
        }
