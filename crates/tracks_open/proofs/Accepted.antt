-- The numbers of an album that is accepted.
use Rattle.std.proofs.Common.{◌≡◌, ℕ, ◌+◌, ◌≤◌, List, [], ◌∷◌, sym, refl, ◌∙◌, arith}
use Rattle.reference.specs.Refusals.{Place, accepted, is_accepted, decide}
use Rattle.reference.specs.declared.Settings.{Settings}
use Rattle.reference.proofs.Refusals.{decide_first, decide_skip}
use Rattle.tracks.specs.Tracks.{Head, all_length, frames_of_bytes, tracks_frames, tracks_channels, tracks_places, open_places, refused_from, refused_track}
use Rattle.tracks.proofs.Opened.{is_opened, six_channels}
use Rattle.tracks_open.specs.Open.{numbers, album_of, AcceptedFits}
use Rattle.tracks_open.proofs.Bounds.{size_bound}
use Rattle.tracks_open.proofs.Following.{flat}

-- few channels, and no more bytes of each than two hours have
pub accepted_few : (hs : List Head) (s : Settings) → decide (open_places hs s) ≡ accepted → (tracks_channels hs ≤ 6) × (all_length hs ≤ 2540160000)
unfolding tracks_frames frames_of_bytes
accepted_few hs s e =
    let o = is_opened hs s e in
    (six_channels hs s o, omega (arith, o.few))

pub album_fits : AcceptedFits
unfolding album_of numbers tracks_frames
album_fits hs s e =
    let o = is_opened hs s e in
    record { few = six_channels hs s o; most = o.few; sized = size_bound s.rate (tracks_channels hs) (six_channels hs s o) }

-- no track is named
none_from : (k : ℕ) (ps : List (List Place)) → decide (flat ps) ≡ accepted → refused_from k ps ≡ 0
unfolding refused_from is_accepted
none_from k [] e = refl
none_from k (p ∷ ps) e =
    let here = decide_first p (flat ps) e in
    rw here (none_from (k + 1) ps (sym (decide_skip p (flat ps) here) ∙ e))

pub none_refused : (hs : List Head) (s : Settings) → decide (open_places hs s) ≡ accepted → refused_track hs s ≡ 0
unfolding open_places refused_track
none_refused hs s e = none_from 0 (tracks_places hs s) e
