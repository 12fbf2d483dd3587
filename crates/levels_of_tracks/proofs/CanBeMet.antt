-- A call on each frame: frame by frame, each with those next to it.
use Rattle.std.proofs.Common.{◌≡◌, refl, sym, ◌∙◌, List, [], ◌∷◌, ℕ, zero, suc, ◌+◌, ◌-◌, ◌*◌, ◌<◌, arith, length, replicate, Ok, nat_lt}
use lib.ListN.{length-replicate}
use Rattle.reference.specs.Frames.{Run, run, frame_length, frame_count, frame}
use Rattle.reference.specs.Refusals.{decide, accepted}
use Rattle.reference.specs.declared.Settings.{Settings}
use Rattle.reference.proofs.Promises.{exit_accepted}
use Rattle.overs.specs.Overs.{Progress}
use Rattle.levels.specs.Levels.{FrameOf, piece_states}
use Rattle.c_levels.specs.Standings.{held_standings}
use Rattle.tracks.specs.Tracks.{Head, heads, tracks_channels, tracks_frames, tracks_frame, tracks_converter, open_places}
use Rattle.tracks.specs.Windows.{low, high, windowed_tracks, HeadsOf}
use Rattle.tracks.proofs.Opened as Opened
use Rattle.tracks.proofs.Opened.{is_opened}
use Rattle.tracks.proofs.TracksToFiles.{tracks_frame_length}
use Rattle.tracks_open.specs.Open.{album_of}
use Rattle.tracks_step.specs.Promises.{piece_windows, piece_frames, frames_places}
use Rattle.tracks_to_files.specs.Heads.{tracks_of}
use Rattle.tracks_to_files.proofs.Heads.{heads_tell}
use Rattle.tracks_to_files.proofs.Calls.{frames_taken}
use Rattle.tracks_to_files.proofs.Made.{made, made_long, made_at}
use Rattle.levels_of_tracks.specs.Levels.{GatheredRun, Before, FrameTold, FramesTold, LevelsCanBeTold}
use Rattle.levels_of_tracks.proofs.Frames.{count_is}

module _ (files : List (List ℕ)) (hs : List Head) (s : Settings) (g : HeadsOf files hs) (taken : decide (open_places hs s) ≡ accepted) where
  abbrev n : ℕ
  n = tracks_channels hs

  abbrev all : ℕ
  all = tracks_frames hs

  some : 0 < n
  some = Opened.some hs s (is_opened hs s taken)

  whole_taken : decide (open_places (heads (tracks_of files)) s) ≡ accepted
  whole_taken = sym (heads_tell files hs s g).opened ∙ taken

  -- ---- a frame
  module _ (f : ℕ) where
    abbrev w : List ℕ
    w = made n (low f * 4704) (high hs f 1 * 4704) 0 files hs

    abbrev room : List ℕ
    room = replicate ((high hs f 1 - low f) * frame_length n) 0

    abbrev left : List ℕ
    left = piece_frames hs f 1 w

    -- its place there
    abbrev k : ℕ
    k = f - low f

    abbrev piece : Run
    piece = run (nat_lt 0 k) (frame n left (k - 1)) (frame n left k) (nat_lt (suc k) (frame_count n left)) (frame n left (suc k))

    module _ (h : f < all) where
      long : length w ≡ piece_windows hs f 1
      long = made_long n (low f * 4704) (high hs f 1 * 4704) 0 files hs g

      passes : decide (frames_places hs s f 1 (length w) (length room)) ≡ accepted
      passes = frames_taken files hs s g whole_taken f 1 (length w) (length room) (omega arith) long (length-replicate ((high hs f 1 - low f) * frame_length n) 0)

      cut : FrameOf n left k piece
      cut =
          let ts = windowed_tracks hs n f 1 w in
          record {
            some_channel = some;
            inside = rw (count_is n some (tracks_frame n ts) (tracks_frame_length n ts) (low f) (high hs f 1 - low f)) (omega arith);
            frames = refl;
            has_before = refl;
            before = λ l. refl;
            has_after = refl;
            after = λ l. refl;
          }

      gathered : GatheredRun files hs s f piece
      gathered = record {
        first = f;
        count = 1;
        from = omega arith;
        to = omega arith;
        windows = w;
        of_windows = made_at n (low f * 4704) (high hs f 1 * 4704) 0 0 [] files hs refl g;
        scratch = room;
        scratch' = left;
        answer = Ok (album_of s.rate hs);
        promise = record { decided = sym passes; named = tt; album = refl; gathered = sym (exit_accepted _ _ _ passes) };
        taken = refl;
        cut = cut;
      }

  -- ---- what is in progress before it
  record Begun (f : ℕ) : Type 0 where
    states : List Progress
    before : Before files hs s f states

  begun : (f : ℕ) → f < all → Begun f
  begun zero h = record { states = held_standings (replicate 12 0); before = refl }
  begun (suc f) h = record {
    states = piece_states (tracks_converter s hs) [] (piece f);
    before = record { piece = piece f; gathered = gathered f (omega arith); before = []; after = refl };
  }

  told : (f : ℕ) → f < all → FrameTold files hs s
  told f h = record { f = f; piece = piece f; gathered = gathered f h; states = (begun f h).states; before = (begun f h).before }

  -- calls on frames a, …, k of them
  record From (a : ℕ) : Type 0 where
    calls : List (FrameTold files hs s)
    are : FramesTold a all calls

  from : (k a : ℕ) → a + k ≡ all → From a
  unfolding told
  from zero a e = record { calls = []; are = omega arith }
  from (suc k) a e = let rest = from k (a + 1) (omega arith) in record { calls = told a (omega arith) ∷ rest.calls; are = (refl, rest.are) }

pub levels_told : LevelsCanBeTold
levels_told files hs s g taken =
    let c = from files hs s g taken (tracks_frames hs) 0 (omega arith) in
    record { calls = c.calls; are = c.are }
