-- Windows made out of files, and a call on each piece.
use Rattle.std.proofs.Common.{◌≡◌, refl, sym, ap, subst, ◌∙◌, List, [], ◌∷◌, ◌++◌, append_assoc, ℕ, zero, suc, ◌+◌, ◌-◌, ◌*◌, ◌/◌, ◌≤◌, ◌<◌, zero-add, le_trans}
use Rattle.std.proofs.Common.{le-div_iff_mul-le, div-mul-le_self, mul-le-mul_left, mul-div_cancel, arith, length, replicate, length-append, get_or-append-add}
use Rattle.std.proofs.Common.{lt-ltb, Ok, Some}
use lib.ListN.{length-replicate, get_or-append}
use Rattle.numbers.specs.Lists.{tabulate}
use Rattle.numbers.proofs.Lists.{length_tabulate, get_d_tabulate}
use Rattle.reference.specs.Output.{samples, stats, s24le}
use Rattle.reference.specs.Refusals.{decide, accepted}
use Rattle.reference.specs.declared.Settings.{Settings}
use Rattle.reference.proofs.Promises.{exit_accepted}
use Rattle.dsf.specs.Dsf.{file_data}
use Rattle.album_parts.specs.Parts.{part_first}
use Rattle.tracks.specs.Tracks.{Head, heads, head_length, tracks_channels, tracks_frames, tracks_converter, open_places}
use Rattle.tracks.specs.Windows.{HeadsOf, WindowsFrom, low, high, read_start, read_bytes, windows_length}
use Rattle.tracks_open.specs.Open.{piece_total, numbers, album_of}
use Rattle.tracks_open.specs.declared.Album.{Album}
use Rattle.tracks_plan.specs.Plan.{piece_from, piece_at}
use Rattle.tracks_plan.specs.declared.cutting.Piece.{Piece}
use Rattle.tracks_step.specs.Promises.{piece_frames, piece_run, step_places}
use Rattle.tracks_to_files.specs.Heads.{tracks_of}
use Rattle.tracks_to_files.specs.Calls.{PieceStep, Calls, Parts}
use Rattle.tracks_to_files.proofs.Calls.{piece_taken, part_is}
use Rattle.tracks_to_files.proofs.Steps.{opened}

-- ---- windows
module _ (n a b : ℕ) where
  pub made : ℕ → List (List ℕ) → List Head → List ℕ
  made o [] hs = []
  made o (f ∷ fs) [] = []
  made o (f ∷ fs) (h ∷ hs) = tabulate (λ j. file_data f (read_start n h o a b + j)) 0 (read_bytes n h o a b) ++ made (o + head_length h) fs hs

  pub made_long : (o : ℕ) (fs : List (List ℕ)) (hs : List Head) → HeadsOf fs hs → length (made o fs hs) ≡ windows_length n a b o hs
  unfolding made windows_length
  made_long o [] [] g = refl
  made_long o [] (h ∷ hs) g = absurd g
  made_long o (f ∷ fs) [] g = absurd g
  made_long o (f ∷ fs) (h ∷ hs) g =
      length-append (tabulate (λ j. file_data f (read_start n h o a b + j)) 0 (read_bytes n h o a b)) (made (o + head_length h) fs hs)
      ∙ rw (length_tabulate (λ j. file_data f (read_start n h o a b + j)) 0 (read_bytes n h o a b), made_long (o + head_length h) fs hs g.1) refl

  pub made_at : (o p : ℕ) (front : List ℕ) (fs : List (List ℕ)) (hs : List Head) → length front ≡ p → HeadsOf fs hs → WindowsFrom n a b o p (front ++ made o fs hs) fs hs
  unfolding made
  made_at o p front [] [] e g = tt
  made_at o p front [] (h ∷ hs) e g = absurd g
  made_at o p front (f ∷ fs) [] e g = absurd g
  made_at o p front (f ∷ fs) (h ∷ hs) e g =
      let byte : ℕ → ℕ = λ j. file_data f (read_start n h o a b + j) in
      let t = tabulate byte 0 (read_bytes n h o a b) in
      let size : length t ≡ read_bytes n h o a b = length_tabulate byte 0 (read_bytes n h o a b) in
      let rest = made (o + head_length h) fs hs in
      let long : length (front ++ t) ≡ p + read_bytes n h o a b = length-append front t ∙ rw (e, size) refl in (
        record {
          holds = λ j l.
              rw (← e)
              (get_or-append-add front (t ++ rest) j 0 ∙ get_or-append t rest 0 j (rw size l)
              ∙ get_d_tabulate byte 0 (read_bytes n h o a b) j 0 l ∙ ap byte (zero-add j));
        },
        subst (λ (l : List ℕ). WindowsFrom n a b (o + head_length h) (p + read_bytes n h o a b) l fs hs) (append_assoc front t rest)
            (made_at (o + head_length h) (p + read_bytes n h o a b) (front ++ t) fs hs long g.1),
      )

share_grows : (k : ℕ) {x y : ℕ} → 0 < k → x ≤ y → x / k ≤ y / k
share_grows k {x} {y} some l = (le-div_iff_mul-le some).1 (le_trans (div-mul-le_self x k) l)

module _ (files : List (List ℕ)) (hs : List Head) (s : Settings) (g : HeadsOf files hs) (taken : decide (open_places (heads (tracks_of files)) s) ≡ accepted) where
  abbrev n : ℕ
  n = tracks_channels hs

  abbrev album : Album
  album = album_of s.rate hs

  -- ---- a call
  module _ (i : ℕ) (h : i < piece_total (tracks_frames hs)) where
    abbrev p : Piece
    p = piece_from album (i * 128)

    planned : piece_at album i ≡ Some p
    unfolding piece_at album_of numbers tracks_frames
    planned = rw (lt-ltb i (piece_total (tracks_frames hs)) h) refl

    abbrev w : List ℕ
    w = made n (low p.first * 4704) (high hs p.first p.count * 4704) 0 files hs

    long : length w ≡ windows_length n (low p.first * 4704) (high hs p.first p.count * 4704) 0 hs
    long = made_long n (low p.first * 4704) (high hs p.first p.count * 4704) 0 files hs g

    abbrev room : List ℕ
    room = replicate p.scratch 0

    abbrev bytes : List ℕ
    bytes = replicate p.bytes 0

    passes : decide (step_places hs s p.first p.count (length w) (length room) (length bytes)) ≡ accepted
    passes = piece_taken files hs s g taken i p planned (length w) (length room) (length bytes) long (length-replicate p.scratch 0) (length-replicate p.bytes 0)

    call_on : PieceStep files hs s
    call_on = record {
      i = i;
      piece = p;
      planned = planned;
      windows = w;
      of_windows = made_at n (low p.first * 4704) (high hs p.first p.count * 4704) 0 0 [] files hs refl g;
      long = long;
      scratch = room;
      scratch' = piece_frames hs p.first p.count w;
      held = length-replicate p.scratch 0;
      out = bytes;
      out' = s24le (samples (tracks_converter s hs) (piece_run hs p.first p.count w));
      lent = length-replicate p.bytes 0;
      answer = Ok (stats (tracks_converter s hs) (piece_run hs p.first p.count w));
      promise = record {
        decided = sym passes;
        named = tt;
        counted = refl;
        gathered = sym (exit_accepted _ _ _ passes);
        written = sym (exit_accepted _ _ _ passes);
      };
    }

  -- calls on pieces a, …, b - 1
  record Called (a b : ℕ) : Type 0 where
    calls : List (PieceStep files hs s)
    are : Calls a b calls

  called : (k a : ℕ) → a + k ≤ piece_total (tracks_frames hs) → Called a (a + k)
  unfolding call_on
  called zero a l = record { calls = []; are = omega arith }
  called (suc k) a l =
      let rest = called k (a + 1) (omega arith) in
      let e : a + 1 + k ≡ a + suc k = omega arith in
      record { calls = call_on a (omega arith) ∷ rest.calls; are = (refl, subst (λ (m : ℕ). Calls (a + 1) m rest.calls) e rest.are) }

  module _ (jobs : ℕ) (some_job : 0 < jobs) (most : jobs ≤ 64) where
    abbrev P : ℕ
    P = piece_total (tracks_frames hs)

    abbrev begin : ℕ → ℕ
    begin j = part_first P jobs j

    in_order : (j : ℕ) → begin j ≤ begin (j + 1)
    unfolding part_first
    in_order j = share_grows jobs some_job (mul-le-mul_left P (omega arith))

    ends_in : (j : ℕ) → j < jobs → begin (j + 1) ≤ P
    unfolding part_first
    ends_in j h = subst (λ (m : ℕ). P * (j + 1) / jobs ≤ m) (mul-div_cancel P some_job) (share_grows jobs some_job (mul-le-mul_left P (omega arith)))

    fits : (j : ℕ) → j < jobs → begin j + (begin (j + 1) - begin j) ≤ P
    fits j h = omega (arith, in_order j, ends_in j h)

    -- the calls of parts j, …, jobs - 1, k of them
    pub record CalledParts (j : ℕ) : Type 0 where
      pub parts : List (List (PieceStep files hs s))
      pub are : Parts jobs j parts

    parts_called : (k j : ℕ) → j + k ≡ jobs → CalledParts j
    parts_called zero j e = record { parts = []; are = omega arith }
    parts_called (suc k) j e =
        let h : j < jobs = omega arith in
        let rest = parts_called k (j + 1) (omega arith) in
        let to : begin j + (begin (j + 1) - begin j) ≡ begin (j + 1) = omega (arith, in_order j) in
        let here : Called (begin j) (begin (j + 1)) = subst (λ (m : ℕ). Called (begin j) m) to (called (begin (j + 1) - begin j) (begin j) (fits j h)) in
        record { parts = here.calls ∷ rest.parts; are = (rw (part_is files hs s jobs (opened files hs s g taken).few some_job most j h) here.are, rest.are) }

    pub all_called : CalledParts 0
    all_called = parts_called jobs 0 (omega arith)
