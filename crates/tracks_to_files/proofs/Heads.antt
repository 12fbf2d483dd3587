-- Heads tell the album.
use Rattle.std.proofs.Common.{◌≡◌, refl, sym, ap, ◌∙◌, Bool, true, false, cond, List, [], ◌∷◌, ◌++◌, ℕ, zero, suc, ◌+◌, length, take}
use mathlib.Core.List.{flat_map}
use Rattle.reference.specs.Refusals.{Place, refused, decide}
use Rattle.reference.specs.Promises.{by_decision}
use Rattle.reference.specs.declared.Settings.{Settings}
use Rattle.dsf.specs.Dsf.{channel_type}
use Rattle.dsf.specs.Reading.{HeadOf, header_places, file_header}
use Rattle.dsf.specs.declared.DsfHeader.{DsfHeader}
use Rattle.dsf.proofs.Head.{header_right, whole_head}
use Rattle.tracks.specs.Tracks.{Head, head_of, heads, head_length, all_length, offset, tracks_channels, tracks_type}
use Rattle.tracks.specs.Tracks.{tracks_frames, first_places, next_places, rest_places, tracks_places, open_places, data_start}
use Rattle.tracks.specs.Windows.{HeadsOf}
use Rattle.tracks.proofs.Windows.{same_header, same_channels, same_length, same_all_length}
use Rattle.tracks_to_files.specs.Heads.{tracks_of, HeadsTell}

-- ---- lists of places that decide alike
decide_both : (a c : List Place) → decide (a ++ c) ≡ by_decision (decide a) (decide c) (decide a)
unfolding decide by_decision
decide_both [] c = refl
decide_both (p ∷ ps) c = go p.holds (decide_both ps c)
  where
    go : (b : Bool) → decide (ps ++ c) ≡ by_decision (decide ps) (decide c) (decide ps)
        → cond b (refused p.refusal p.carried) (decide (ps ++ c))
        ≡ by_decision (cond b (refused p.refusal p.carried) (decide ps)) (decide c) (cond b (refused p.refusal p.carried) (decide ps))
    go true h = refl
    go false h = h

decide_same : (a b c d : List Place) → decide a ≡ decide b → decide c ≡ decide d → decide (a ++ c) ≡ decide (b ++ d)
decide_same a b c d e f = decide_both a c ∙ rw (e, f) (sym (decide_both b d))

-- ---- one head
module _ (file : List ℕ) (h : Head) (g : HeadOf file h.bytes h.long) where
  header_alike : decide (header_places h.bytes h.long) ≡ decide (header_places file (length file))
  header_alike = (header_right file h.bytes h.long g).0 ∙ sym (whole_head file)

  pub same_type : channel_type h.bytes ≡ channel_type file
  unfolding file_header
  same_type = ap (λ (d : DsfHeader). d.channel_type) (same_header file h g)

  first_alike : (s : Settings) → decide (first_places h s) ≡ decide (first_places (head_of file) s)
  unfolding first_places
  first_alike s =
      decide_same (header_places h.bytes h.long) (header_places file (length file)) _ _ header_alike (rw (same_channels file h g, same_length file h g) refl)

  next_alike : (type end : ℕ) → decide (next_places type end h) ≡ decide (next_places type end (head_of file))
  unfolding next_places
  next_alike type end = decide_same (header_places h.bytes h.long) (header_places file (length file)) _ _ header_alike (rw same_type refl)

-- ---- all of them
rest_alike : (type before : ℕ) (files : List (List ℕ)) (hs : List Head) → HeadsOf files hs
    → decide (flat_map (λ p. p) (rest_places type before hs)) ≡ decide (flat_map (λ p. p) (rest_places type before (heads (tracks_of files))))
unfolding rest_places flat_map
rest_alike type before [] [] g = refl
rest_alike type before [] (h ∷ hs) g = absurd g
rest_alike type before (f ∷ fs) [] g = absurd g
rest_alike type before (f ∷ fs) (h ∷ hs) g =
    rw (← same_length f h g.0)
    (decide_same (next_places type (before + head_length h) h) (next_places type (before + head_length h) (head_of f)) _ _ (next_alike f h g.0 type (before + head_length h))
    (rest_alike type (before + head_length h) fs hs g.1))

opened_alike : (files : List (List ℕ)) (hs : List Head) (s : Settings) → HeadsOf files hs → decide (open_places hs s) ≡ decide (open_places (heads (tracks_of files)) s)
unfolding open_places tracks_places flat_map
opened_alike [] [] s g = refl
opened_alike [] (h ∷ hs) s g = absurd g
opened_alike (f ∷ fs) [] s g = absurd g
opened_alike (f ∷ fs) (h ∷ hs) s g =
    rw (← same_type f h g.0, ← same_length f h g.0)
    (decide_same (first_places h s) (first_places (head_of f) s) _ _ (first_alike f h g.0 s) (rest_alike (channel_type h.bytes) (head_length h) fs hs g.1))

channels_alike : (files : List (List ℕ)) (hs : List Head) → HeadsOf files hs → tracks_channels hs ≡ tracks_channels (heads (tracks_of files))
unfolding tracks_channels
channels_alike [] [] g = refl
channels_alike [] (h ∷ hs) g = absurd g
channels_alike (f ∷ fs) [] g = absurd g
channels_alike (f ∷ fs) (h ∷ hs) g = same_channels f h g.0

type_alike : (files : List (List ℕ)) (hs : List Head) → HeadsOf files hs → tracks_type hs ≡ tracks_type (heads (tracks_of files))
unfolding tracks_type
type_alike [] [] g = refl
type_alike [] (h ∷ hs) g = absurd g
type_alike (f ∷ fs) [] g = absurd g
type_alike (f ∷ fs) (h ∷ hs) g = same_type f h g.0

offset_alike : (files : List (List ℕ)) (hs : List Head) → HeadsOf files hs → (k : ℕ) → all_length (take k hs) ≡ all_length (take k (heads (tracks_of files)))
unfolding all_length
offset_alike [] [] g k = refl
offset_alike [] (h ∷ hs) g k = absurd g
offset_alike (f ∷ fs) [] g k = absurd g
offset_alike (f ∷ fs) (h ∷ hs) g zero = refl
offset_alike (f ∷ fs) (h ∷ hs) g (suc k) = rw (same_length f h g.0, offset_alike fs hs g.1 k) refl

pub heads_tell : HeadsTell
unfolding tracks_frames data_start offset
heads_tell files hs s g = record {
  opened = opened_alike files hs s g;
  channels = channels_alike files hs g;
  type = type_alike files hs g;
  frames = rw (same_all_length files hs g) refl;
  marks = λ rate n k. rw (offset_alike files hs g k) refl;
}
