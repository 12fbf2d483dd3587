-- The first 92 bytes of each file and its length tell the album.
use Rattle.std.specs.Prelude.{◌≡◌, List, map, flat_map, ℕ, ◌≤◌, length, take}
use Rattle.numbers.specs.Lists.{Each}
use Rattle.reference.specs.Refusals.{decide}
use Rattle.reference.specs.declared.PcmRate.{PcmRate}
use Rattle.reference.specs.declared.Settings.{Settings}
use Rattle.tracks.specs.Tracks.{Head, Track, track_of, heads, heads_of, tracks_channels, tracks_type, tracks_frames, open_places, data_start}
use Rattle.tracks.specs.Windows.{HeadsOf}

abbrev pub tracks_of : List (List ℕ) → List Track
tracks_of files = map track_of files

-- the same refusals, channels, frames and marks as whole files
pub record HeadsAgree (files : List (List ℕ)) (hs : List Head) (s : Settings) : Type 0 where
  pub opened : decide (open_places hs s) ≡ decide (open_places (heads (tracks_of files)) s)
  pub channels : tracks_channels hs ≡ tracks_channels (heads (tracks_of files))
  pub type : tracks_type hs ≡ tracks_type (heads (tracks_of files))
  pub frames : tracks_frames hs ≡ tracks_frames (heads (tracks_of files))
  pub marks : (rate : PcmRate) (n k : ℕ) → data_start rate n hs k ≡ data_start rate n (heads (tracks_of files)) k

-- proved in proofs/Heads, `heads_tell`
abbrev pub HeadsTell : Type 0
HeadsTell = (files : List (List ℕ)) (hs : List Head) (s : Settings) → HeadsOf files hs → HeadsAgree files hs s

-- the first 92 bytes of files end to end, and their lengths: heads of these files, where each has so many. Proved in
-- proofs/Cut, `heads_cut`
abbrev pub HeadsCut : Type 0
HeadsCut = (files : List (List ℕ)) → Each (λ f. 92 ≤ length f) files → HeadsOf files (heads_of (flat_map (take 92) files) (map length files))
