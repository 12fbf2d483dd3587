-- What each call about an album of tracks promises: its answer, and what every lent list holds when it returns. A
-- primed list is one at exit.
use Rattle.std.specs.Prelude.{◌≡◌, Option, Some, None, List, [], ◌∷◌, cond, ◌&&◌, ℕ, ◌+◌, ◌-◌, ◌*◌, eqb, length, replicate, Float}
use Rattle.numbers.specs.Lists.{tabulate}
use Rattle.reference.specs.Frames.{frame_bytes}
use Rattle.reference.specs.Refusals.{Decision, decide, refusal_number}
use Rattle.reference.specs.Promises.{by_decision}
use Rattle.reference.specs.declared.PcmRate.{PcmRate}
use Rattle.reference.specs.declared.Settings.{Settings}
use Rattle.codes.specs.Calls.{CCall}
use Rattle.codes.specs.Told.{ToldWhole}
use Rattle.album_parts.specs.Parts as parts
use Rattle.album_parts.specs.declared.Part.{Part}
use Rattle.tracks.specs.Tracks.{Head, tracks_channels, open_places, refused_track, data_start}
use Rattle.tracks.specs.Windows.{low, high, windows_length}
use Rattle.tracks_open.specs.Open.{album_of}
use Rattle.tracks_open.specs.declared.Album.{Album}
use Rattle.tracks_plan.specs.Plan.{piece_at}
use Rattle.tracks_plan.specs.Reads.{reads}
use Rattle.tracks_plan.specs.Writes.{writes}
use Rattle.tracks_plan.specs.declared.cutting.Piece.{Piece}
use Rattle.c_tracks.specs.Asked.{Asked, asked_known, asked_settings, asked_heads}
use Rattle.c_tracks.specs.Told.{album_numbers}

-- ---- opening

-- what is lent for it
pub record Outputs : Type 0 where
  pub album : List ℕ
  pub marks : List ℕ
  pub track : List ℕ
  pub «data» : List ℕ
  pub decibels : List Float

abbrev pub outputs : List ℕ → List ℕ → List ℕ → List ℕ → List Float → Outputs
outputs a m t d f = record { album = a; marks = m; track = t; «data» = d; decibels = f }

-- where the tracks' bytes begin in the album's data, and where the last's end
abbrev pub all_marks : PcmRate → ℕ → List Head → List ℕ
all_marks rate n hs = tabulate (data_start rate n hs) 0 (length hs + 1)

-- d is what it decides
pub record OpenAlbumDone (d : Decision) (hs : List Head) (s : Settings) (old new : Outputs) (answer : ℕ) : Type 0 where
  pub told : ToldWhole d answer new.«data» new.decibels
  pub named : new.track ≡ refused_track hs s ∷ []
  pub written : new.album ≡ by_decision d (album_numbers (album_of s.rate hs)) old.album
  pub marked : new.marks ≡ by_decision d (all_marks s.rate (tracks_channels hs) hs) old.marks

abbrev pub OpenAlbumCall : Asked → Outputs → Outputs → ℕ → Type 0
OpenAlbumCall a old new answer =
    CCall (asked_known a && eqb (length old.marks) (length a.lengths + 1)) answer
    (new ≡ old)
    (OpenAlbumDone (decide (open_places (asked_heads a) (asked_settings a))) (asked_heads a) (asked_settings a) old new answer)

-- ---- the plan

abbrev pub part_numbers : Part → List ℕ
part_numbers p = p.first ∷ p.end ∷ []

abbrev pub PartCall : ℕ → ℕ → ℕ → List ℕ → Type 0
PartCall frames jobs j pieces' = pieces' ≡ part_numbers (parts.job_part frames jobs j)

-- a piece, and the bytes of all that is read for it
abbrev pub some_plan : Album → List Head → Option Piece → List ℕ
some_plan a hs (Some p) =
    p.first ∷ p.count ∷ p.place ∷ p.bytes ∷ p.scratch
    ∷ windows_length a.channels (low p.first * frame_bytes) (high hs p.first p.count * frame_bytes) 0 hs
    ∷ []
some_plan a hs None = replicate 6 0

abbrev pub plan_numbers : Album → List Head → ℕ → List ℕ
plan_numbers a hs i = some_plan a hs (piece_at a i)

-- what is read of each track
abbrev pub some_reads : Album → List Head → Option Piece → List ℕ
some_reads a hs (Some p) = reads a.channels (low p.first * frame_bytes) (high hs p.first p.count * frame_bytes) 0 hs
some_reads a hs None = replicate (2 * length hs) 0

abbrev pub read_numbers : Album → List Head → ℕ → List ℕ
read_numbers a hs i = some_reads a hs (piece_at a i)

-- d is what opening decides
pub record PieceDone (d : Decision) (a : Album) (hs : List Head) (i : ℕ) (plan plan' asked asked' : List ℕ) (answer : ℕ) : Type 0 where
  pub number : answer ≡ refusal_number d
  pub planned : plan' ≡ by_decision d (plan_numbers a hs i) plan
  pub read : asked' ≡ by_decision d (read_numbers a hs i) asked

abbrev pub PieceCall : Asked → ℕ → List ℕ → List ℕ → List ℕ → List ℕ → ℕ → Type 0
PieceCall a i plan plan' asked asked' answer =
    CCall (asked_known a && eqb (length asked) (2 * length a.lengths)) answer
    ((plan' ≡ plan) × (asked' ≡ asked))
    (PieceDone (decide (open_places (asked_heads a) (asked_settings a))) (album_of (asked_settings a).rate (asked_heads a)) (asked_heads a) i plan plan' asked asked' answer)

-- three numbers are lent for each file between two marks
abbrev pub WritesCall : List ℕ → ℕ → ℕ → List ℕ → List ℕ → Type 0
WritesCall marks place bytes out out' = out' ≡ cond (eqb (length out) (3 * (length marks - 1))) (writes marks place bytes) out
