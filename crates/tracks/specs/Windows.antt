-- What is read of each track for some frames, and the tracks out of it.
use Rattle.std.specs.Prelude.{◌≡◌, List, [], ◌∷◌, map, cond, ℕ, ◌+◌, ◌-◌, ◌*◌, ◌/◌, ◌≤◌, ◌<◌, ltb, get_or, min}
use Rattle.numbers.specs.Lists.{Each}
use Rattle.reference.specs.Frames.{frame_bytes}
use Rattle.dsf.specs.Dsf.{block, blocks, channels, file_data}
use Rattle.dsf.specs.Reading.{HeadOf}
use Rattle.tracks.specs.Tracks.{Head, Track, track_of, head_length, tracks_frames, tracks_piece}

-- ---- the frames

-- of `count` frames from frame `first` on: the first that is read, the one before where it is there; and the one behind
-- the last, which is the one after where it is there
abbrev pub low : ℕ → ℕ
low first = first - 1

abbrev pub high : List Head → ℕ → ℕ → ℕ
high hs first count = min (first + count + 1) (tracks_frames hs)

-- ---- a track's bytes

-- of an album's bytes a to b of each channel, those of a track that begins at byte o: its own bytes `own_from` to
-- `own_to`. A track that has none there has an `own_to` that is not behind `own_from`
abbrev pub own_from : ℕ → ℕ → ℕ
own_from o a = a - o

abbrev pub own_to : Head → ℕ → ℕ → ℕ
own_to h o b = min (head_length h) (b - o)

-- the groups of blocks of n channels around them: the stretch of the track's data to read. 0 and 0 where it has none
unfoldable pub read_start : ℕ → Head → ℕ → ℕ → ℕ → ℕ
read_start n h o a b = cond (ltb (own_from o a) (own_to h o b)) (own_from o a / block * block * n) 0

unfoldable pub read_end : ℕ → Head → ℕ → ℕ → ℕ → ℕ
read_end n h o a b = cond (ltb (own_from o a) (own_to h o b)) (blocks (own_to h o b) * block * n) 0

abbrev pub read_bytes : ℕ → Head → ℕ → ℕ → ℕ → ℕ
read_bytes n h o a b = read_end n h o a b - read_start n h o a b

-- of all tracks, the first of which begins at byte o
unfoldable pub windows_length : ℕ → ℕ → ℕ → ℕ → List Head → ℕ
windows_length n a b o [] = 0
windows_length n a b o (h ∷ hs) = read_bytes n h o a b + windows_length n a b (o + head_length h) hs

-- ---- tracks out of windows

-- byte j of a track's data out of its window, which stands from place p on in a list, and begins at byte `start` of its
-- data
abbrev pub windowed_data : ℕ → ℕ → List ℕ → ℕ → ℕ
windowed_data start p w j = get_or w (p + (j - start)) 0

-- the windows stand end to end, in the tracks' order: the first from place p on
unfoldable pub windowed : ℕ → ℕ → ℕ → ℕ → ℕ → List ℕ → List Head → List Track
windowed n a b o p w [] = []
windowed n a b o p w (h ∷ hs) =
    record { head = h; read = windowed_data (read_start n h o a b) p w } ∷ windowed n a b (o + head_length h) (p + read_bytes n h o a b) w hs

-- of an album's frames: those of a piece and next to it
abbrev pub windowed_tracks : List Head → ℕ → ℕ → ℕ → List ℕ → List Track
windowed_tracks hs n first count w = windowed n (low first * frame_bytes) (high hs first count * frame_bytes) 0 0 w hs

-- ---- windows of files

-- heads of these files
abbrev pub HeadsOf : List (List ℕ) → List Head → Type 0
HeadsOf [] [] = Unit {0}
HeadsOf [] (h ∷ hs) = ⊥
HeadsOf (f ∷ fs) [] = ⊥
HeadsOf (f ∷ fs) (h ∷ hs) = HeadOf f h.bytes h.long × HeadsOf fs hs

-- a list has from place p on the stretch of a file's data that is to be read
pub record WindowAt (n : ℕ) (file : List ℕ) (h : Head) (o a b p : ℕ) (w : List ℕ) : Type 0 where
  pub holds : (j : ℕ) → j < read_bytes n h o a b → get_or w (p + j) 0 ≡ file_data file (read_start n h o a b + j)

-- each file's window is at its place
abbrev pub WindowsFrom : ℕ → ℕ → ℕ → ℕ → ℕ → List ℕ → List (List ℕ) → List Head → Type 0
WindowsFrom n a b o p w [] hs = Unit {0}
WindowsFrom n a b o p w (f ∷ fs) [] = ⊥
WindowsFrom n a b o p w (f ∷ fs) (h ∷ hs) = WindowAt n f h o a b p w × WindowsFrom n a b (o + head_length h) (p + read_bytes n h o a b) w fs hs

-- of a piece
abbrev pub WindowsOf : List (List ℕ) → List Head → ℕ → ℕ → ℕ → List ℕ → Type 0
WindowsOf files hs n first count w = WindowsFrom n (low first * frame_bytes) (high hs first count * frame_bytes) 0 0 w files hs

-- then a piece out of the windows is the piece out of the files. Proved in proofs/Windows, `windowed_piece`
abbrev pub WindowedPiece : Type 0
WindowedPiece =
    (n : ℕ) (files : List (List ℕ)) (hs : List Head) (first count : ℕ) (w : List ℕ) → HeadsOf files hs → Each (λ h. channels h.bytes ≡ n) hs
    → first + count ≤ tracks_frames hs → WindowsOf files hs n first count w
    → tracks_piece n (windowed_tracks hs n first count w) first count ≡ tracks_piece n (map track_of files) first count
