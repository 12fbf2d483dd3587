-- What a step asks, place by place.
use Rattle.std.proofs.Common.{◌≡◌, Result, Ok, Err, ℕ, ◌+◌, ◌-◌, ◌*◌, ◌≤◌, ◌<◌, List, [], ◌∷◌, ◌++◌, min, sym, refl, ap, ◌∙◌, arith, not, le-leb, eq-eqb}
use Rattle.std.proofs.Common.{ne_eqb, leb-true, leb}
use borrow.Author.Tests.{lt-leb, not-false}
use Rattle.reference.specs.Refusals.{Decision, Place, accepted, refused, error_decision, decide, number, lent_length}
use Rattle.reference.specs.declared.PcmError.{PcmError}
use Rattle.reference.specs.declared.Settings.{Settings}
use Rattle.reference.proofs.Refusals.{at_first, at_next, at_end, pass}
use Rattle.refusals.proofs.Steps.{stops, goes_on}
use Rattle.tracks.specs.Tracks.{Head, heads_of, tracks_channels, tracks_frames, open_places}
use Rattle.tracks.specs.Windows.{low, windows_length}
use Rattle.tracks.proofs.Opened.{is_opened, six_channels}
use Rattle.tracks_open.specs.Open.{numbers, album_of}
use Rattle.tracks_open.specs.inner.Open.{OpenPromise, TracksArgs}
use Rattle.tracks_open.specs.declared.Album.{Album}
use Rattle.tracks_open.specs.declared.Refused.{Refused}
use Rattle.tracks_open.proofs.Accepted.{accepted_few, none_refused}
use Rattle.tracks_put.specs.declared.Span.{Span}
use Rattle.tracks_step.specs.declared.Gathered.{Gathered}
use Rattle.tracks_step.specs.Promises.{piece_places, frames_places}
use Rattle.tracks_step.specs.inner.Steps.{no_frames, lent_places, LentArgs, FitArgs, piece_span, Fitting, ReadyPromise}

module _ (frames first count : ℕ) where
  pub begins_past : frames < first → refused 5 (number first ∷ []) ≡ decide (no_frames frames first count ∷ [])
  begins_past h = sym (at_first _ _ (ap not (lt-leb (first + count) frames (omega arith))))

  pub ends_past : first ≤ frames → frames - first < count → refused 5 (number first ∷ []) ≡ decide (no_frames frames first count ∷ [])
  ends_past h l = sym (at_first _ _ (ap not (lt-leb (first + count) frames (omega arith))))

  pub all_there : first ≤ frames → count ≤ frames - first → accepted ≡ decide (no_frames frames first count ∷ [])
  all_there h l = sym (at_next _ _ (ap not (le-leb (first + count) frames (omega arith))) ∙ at_end)

pub last_is : (first count frames : ℕ) → min frames (first + count + 1) ≡ min (first + count + 1) frames
last_is first count frames = omega arith

-- ---- the frames, then the lists
module _ (hs : List Head) (first count windows scratch : ℕ) where
  abbrev here : Place
  here = no_frames (tracks_frames hs) first count

  abbrev lists : List Place
  lists = lent_places hs (tracks_channels hs) (piece_span hs first count) windows scratch

  in_turn : piece_places hs first count windows scratch ≡ (here ∷ []) ++ lists
  unfolding piece_places lent_places
  in_turn = refl

  pub not_there : (e : PcmError) → error_decision e ≡ decide (here ∷ []) → Fitting hs first count windows scratch (Err e)
  not_there e h = record { decided = stops (here ∷ []) lists e h ∙ sym (ap decide in_turn); frames = _ }

  pub not_lent : (e : PcmError) → accepted ≡ decide (here ∷ []) → error_decision e ≡ decide lists → Fitting hs first count windows scratch (Err e)
  not_lent e a h = record { decided = goes_on (here ∷ []) lists a h ∙ sym (ap decide in_turn); frames = _ }

  pub all_lent : (f : Span) → f ≡ piece_span hs first count → accepted ≡ decide (here ∷ []) → accepted ≡ decide lists → Fitting hs first count windows scratch (Ok f)
  all_lent f e a h = record { decided = goes_on (here ∷ []) lists a h ∙ sym (ap decide in_turn); frames = e }

pub is_there : (frames first count : ℕ) → accepted ≡ decide (no_frames frames first count ∷ []) → first + count ≤ frames
is_there frames first count e = leb-true (first + count) frames (not-false (leb (first + count) frames) (pass _ _ (sym e)).0)

-- ---- the lists
module _ (hs : List Head) (n : ℕ) (f : Span) (windows scratch : ℕ) where
  abbrev needed : ℕ
  needed = windows_length n (f.from * 4704) (f.to * 4704) 0 hs

  pub wrong_windows : (windows ≡ needed → ⊥) → refused 11 [] ≡ decide (lent_places hs n f windows scratch)
  unfolding lent_places
  wrong_windows h = sym (at_first _ _ (ap not (ne_eqb windows needed h)))

  pub right_windows : windows ≡ needed → {d : Decision} → d ≡ decide (lent_length 7 scratch ((f.to - f.from) * (4704 * n)) ∷ []) → d ≡ decide (lent_places hs n f windows scratch)
  unfolding lent_places
  right_windows h e = e ∙ sym (at_next _ _ (ap not (eq-eqb windows needed h)))

-- ---- what the parts ask
module _ {heads lengths : List ℕ} {a : Album} (g : FitArgs heads lengths a) (first count : ℕ) (there : first + count ≤ a.frames) (f : Span) (from : f.from ≡ low first)
    (to : f.to ≡ min (first + count + 1) a.frames) where
  pub lent_args : LentArgs heads lengths a.channels f
  lent_args = record { is = g.is; six = g.six; order = omega arith; most = omega (arith, g.most); short = g.short }

  pub span_is : f ≡ piece_span (heads_of heads lengths) first count
  span_is = λ i. record { from = from i; to = (to ∙ ap (λ (x : ℕ). min (first + count + 1) x) g.frames) i }

pub all_fit : {heads lengths : List ℕ} {a : Album} → FitArgs heads lengths a → (first count windows scratch : ℕ) → accepted ≡ decide (no_frames a.frames first count ∷ [])
    → (f : Span) → f.from ≡ low first → f.to ≡ min (first + count + 1) a.frames → accepted ≡ decide (lent_places (heads_of heads lengths) a.channels f windows scratch)
    → Fitting (heads_of heads lengths) first count windows scratch (Ok f)
all_fit {heads} {lengths} {a} g first count windows scratch there f from to e =
    let is = span_is g first count (is_there a.frames first count there) f from to in
    all_lent (heads_of heads lengths) first count windows scratch f is (rw g.frames at there) (rw (g.channels, is) at e)

-- ---- the album, then the frames
module _ (heads lengths : List ℕ) (s : Settings) (first count windows scratch : ℕ) where
  abbrev hs : List Head
  hs = heads_of heads lengths

  abbrev Readied : Result Gathered Refused → Type 0
  Readied = ReadyPromise hs s first count windows scratch

  pub not_opened : (e : Refused) → OpenPromise hs s (Err e) → Readied (Err e)
  unfolding frames_places
  not_opened e p = record { decided = stops (open_places hs s) (piece_places hs first count windows scratch) e.error p.decided; named = p.named; ready = _ }

  module _ (a : Album) (p : OpenPromise hs s (Ok a)) where
    opens : decide (open_places hs s) ≡ accepted
    opens = sym p.decided

    pub fit_args : TracksArgs heads lengths → FitArgs heads lengths a
    unfolding album_of numbers tracks_frames
    fit_args is =
        let o = is_opened hs s opens in
        rw p.album (record { is = is; channels = refl; frames = refl; six = six_channels hs s o; most = o.few; short = (accepted_few hs s opens).1 })

    after : (d : Decision) → d ≡ decide (piece_places hs first count windows scratch) → d ≡ decide (frames_places hs s first count windows scratch)
    unfolding frames_places
    after d e = goes_on (open_places hs s) (piece_places hs first count windows scratch) p.decided e

    pub not_fitting : (e : PcmError) → Fitting hs first count windows scratch (Err e) → Readied (Err (record { track = 0; error = e }))
    not_fitting e f = record { decided = after (error_decision e) f.decided; named = sym (none_refused hs s opens); ready = _ }

    pub is_ready : (f : Span) → Fitting hs first count windows scratch (Ok f) → Readied (Ok (record { album = a; frames = f }))
    is_ready f g = record { decided = after accepted g.decided; named = _; ready = λ i. record { album = p.album i; frames = g.frames i } }
