-- The files that the definition gives hold what calls wrote.
use Rattle.std.proofs.Common.{◌≡◌, refl, sym, ap, subst, ◌∙◌, ⊎_elim, List, [], ◌∷◌, ◌++◌, map, append_assoc, ℕ, ◌+◌, ◌-◌, ◌*◌, ◌≤◌, ◌<◌, min, add_assoc}
use Rattle.std.proofs.Common.{zero-mul, arith, length, take, drop, length-append, length-drop, drop-drop, take-take, lt-ltb, le-ltb}
use mathlib.Core.List.{flat_map}
use native.Mathlib.Nat.{sub-zero}
use lib.ListN.{length-replicate}
use lib.Seq.{take-append_seam, drop-append_seam, drop-append-add, drop-append-le, take-append-le, take-length}
use Rattle.numbers.specs.Lists.{Each}
use Rattle.numbers.proofs.Lists.{below_or}
use Rattle.reference.specs.Refusals.{decide, accepted}
use Rattle.reference.specs.declared.Settings.{Settings}
use Rattle.text.specs.Lists.{part}
use Rattle.wave_headers.specs.Headers.{header_length, pad}
use Rattle.wave_headers.specs.declared.HeaderKind.{HeaderKind}
use Rattle.tracks.specs.Tracks.{Head, Track, heads, tracks_channels, tracks_frames, open_places, data_start, album_data, track_data}
use Rattle.tracks.specs.TracksToFiles.{album_frame, Step, Cut, HoldsAt}
use Rattle.tracks.specs.Windows.{HeadsOf}
use Rattle.tracks.proofs.Parts.{drop_take, length_part}
use Rattle.tracks.proofs.TracksToFiles.{tracks_to_files, album_long, track_within, step_long}
use Rattle.tracks_plan.specs.Writes.{write_of}
use Rattle.tracks_plan.specs.declared.writing.Write.{Write}
use Rattle.tracks_to_files.specs.Heads.{tracks_of}
use Rattle.tracks_to_files.specs.Calls.{PieceStep}
use Rattle.tracks_to_files.specs.PlanToFiles.{write_for, FileWritten, TrackWritten, AllWritten, file_of}
use Rattle.tracks_to_files.specs.CanBeMet.{PlanMeets}
use Rattle.tracks_to_files.proofs.Calls.{step_of, calls_cut, parts_are_all}
use Rattle.tracks_to_files.proofs.Steps.{opened}
use Rattle.tracks_to_files.proofs.PlanToFiles.{step, place_of, bytes_of, front, behind, front_long, file_is, mark_is, end_is, length_files}

-- ---- a step's bytes are at their place in the album's data
module _ (ts : List Track) (s : Settings) (taken : decide (open_places (heads ts) s) ≡ accepted) where
  abbrev size : ℕ
  size = album_frame ts s

  cut_ends : (from : ℕ) (ps : List (Step ts s)) → Cut from (tracks_frames (heads ts)) ps → from ≤ tracks_frames (heads ts)
  cut_ends from [] e = omega arith
  cut_ends from (p ∷ ps) e = omega (arith, cut_ends (from + p.count) ps e.1)

  each_held : (d : List ℕ) (from : ℕ) (ps : List (Step ts s)) → Cut from (tracks_frames (heads ts)) ps → drop (from * size) d ≡ flat_map (λ (p : Step ts s). p.out) ps
      → Each (λ p. HoldsAt d (p.first * size) p.out) ps
  unfolding flat_map
  each_held d from [] e is = tt
  each_held d from (p ∷ ps) e is =
      let others = flat_map (λ (p : Step ts s). p.out) ps in
      let fits : p.first + p.count ≤ tracks_frames (heads ts) = omega (arith, cut_ends (from + p.count) ps e.1, e.0) in
      let on : from * size + length p.out ≡ (from + p.count) * size = rw (step_long ts s taken p fits) (omega arith) in
      let next : drop ((from + p.count) * size) d ≡ others =
      ap (λ (k : ℕ). drop k d) (sym on) ∙ sym (drop-drop (length p.out) (from * size) d) ∙ ap (drop (length p.out)) is ∙ drop-append_seam p.out others in
      (record { is = rw (e.0, is) (take-append_seam p.out others) }, each_held d (from + p.count) ps e.1 next)

-- ---- what is told of bytes at their place is in every part that has it
module _ (d l : List ℕ) (place low high : ℕ) (front behind : List ℕ) (ends : high ≤ length d) (h : HoldsAt d place l) where
  abbrev w : Write
  w = write_of place (length l) low high

  abbrev out : List ℕ
  out = front ++ (part low high d ++ behind)

  abbrev begin : ℕ
  begin = low - place

  abbrev end : ℕ
  end = min (length l) (high - place)

  abbrev m : ℕ
  m = end - begin

  module _ (some : begin < end) where
    abbrev at : ℕ
    at = place - low

    in_part : at + m ≤ high - low
    in_part = omega arith

    in_list : m ≤ length l - begin
    in_list = omega arith

    part_long : length (part low high d) ≡ high - low
    part_long = length_part low high d ends

    out_is : take m (drop (length front + at) out) ≡ take m (drop (low + at) d)
    out_is =
        let mine = part low high d in
        let rest : drop (length front + at) out ≡ drop at mine ++ behind = drop-append-add front (mine ++ behind) at ∙ drop-append-le at mine behind (omega (arith, part_long, in_part)) in
        ap (take m) rest
        ∙ take-append-le m (drop at mine) behind (omega (arith, length-drop at mine, part_long, in_part))
        ∙ ap (take m) (drop_take at (high - low) (drop low d) ∙ ap (take (high - low - at)) (drop-drop at low d))
        ∙ take-take m (high - low - at) (drop (low + at) d) (omega (arith, in_part))

    part_is : part begin end l ≡ take m (drop (place + begin) d)
    part_is =
        ap (λ (x : List ℕ). take m (drop begin x)) (sym h.is)
        ∙ ap (take m) (drop_take begin (length l) (drop place d) ∙ ap (take (length l - begin)) (drop-drop begin place d))
        ∙ take-take m (length l - begin) (drop (place + begin) d) in_list

    part_size : length (part begin end l) ≡ m
    part_size = length_part begin end l (omega arith)

    some_held : HoldsAt out (length front + at) (part begin end l)
    some_held =
        let same : place + begin ≡ low + at = omega arith in
        record { is = rw part_size (out_is ∙ sym (part_is ∙ ap (λ (k : ℕ). take m (drop k d)) same)) }

  write_held : HoldsAt out (length front + w.at) (part w.begin w.end l)
  unfolding write_of
  write_held = ⊎_elim some none (below_or begin end)
    where
      some : begin < end → HoldsAt out (length front + w.at) (part w.begin w.end l)
      some h = rw (lt-ltb begin end h) (some_held h)

      none : end ≤ begin → HoldsAt out (length front + w.at) (part w.begin w.end l)
      none h = rw (le-ltb begin end h) (record { is = refl })

-- ---- a file
module _ (files : List (List ℕ)) (hs : List Head) (s : Settings) (g : HeadsOf files hs) (taken : decide (open_places (heads (tracks_of files)) s) ≡ accepted) where
  abbrev d : List ℕ
  d = album_data (tracks_of files) s

  abbrev F : HeaderKind → ℕ → ℕ → List ℕ
  F kind low high = front files hs s g taken kind low high

  abbrev B : HeaderKind → ℕ → ℕ → List ℕ
  B kind low high = behind files hs s g taken kind low high

  module _ (kind : HeaderKind) (low high : ℕ) (ends : high ≤ length d) where
    abbrev mine : List ℕ
    mine = part low high d

    abbrev file : List ℕ
    file = F kind low high ++ (mine ++ B kind low high)

    mine_long : length mine ≡ high - low
    mine_long = length_part low high d ends

    front_size : length (F kind low high) ≡ header_length kind
    front_size = front_long files hs s g taken kind low high

    file_long : length file ≡ header_length kind + (high - low) + pad (high - low)
    file_long =
        length-append (F kind low high) (mine ++ B kind low high)
        ∙ rw (front_size, length-append mine (B kind low high), mine_long, length-replicate {A = ℕ} (pad (high - low)) 0) (sym (add_assoc (header_length kind) (high - low) (pad (high - low))))

    abbrev Told : PieceStep files hs s → Type 0
    Told c = HoldsAt file (header_length kind + (write_for low high c).at) (part (write_for low high c).begin (write_for low high c).end c.out')

    told_by : (c : PieceStep files hs s) → HoldsAt d (c.piece.first * album_frame (tracks_of files) s) c.out' → Told c
    told_by c h =
        rw (bytes_of files hs s g taken c, ← front_size)
        (write_held d c.out' c.piece.place low high (F kind low high) (B kind low high) ends (rw (← place_of files hs s g taken c) at h))

    of_steps : (cs : List (PieceStep files hs s)) → Each (λ p. HoldsAt d (p.first * album_frame (tracks_of files) s) p.out) (map (step files hs s g taken) cs) → Each Told cs
    unfolding step_of
    of_steps [] e = tt
    of_steps (c ∷ cs) e = (told_by c e.0, of_steps cs e.1)

    each_left : (l m : List (PieceStep files hs s)) → Each Told (l ++ m) → Each Told l × Each Told m
    each_left [] m e = (tt, e)
    each_left (c ∷ l) m e = ((e.0, (each_left l m e.1).0), (each_left l m e.1).1)

    of_all : (ps : List (List (PieceStep files hs s))) → Each Told (flat_map (λ p. p) ps) → Each (λ p. Each Told p) ps
    unfolding flat_map
    of_all [] e = tt
    of_all (p ∷ ps) e = let both = each_left p (flat_map (λ p. p) ps) e in (both.0, of_all ps both.1)

    pad_held : HoldsAt file (header_length kind + (high - low)) (B kind low high)
    pad_held =
        let both = F kind low high ++ mine in
        let long : length both ≡ header_length kind + (high - low) = length-append (F kind low high) mine ∙ rw (front_size, mine_long) refl in
        let split : file ≡ both ++ B kind low high = sym (append_assoc (F kind low high) mine (B kind low high)) in
        record {
          is =
              ap (λ (l : List ℕ). take (length (B kind low high)) (drop (header_length kind + (high - low)) l)) split
              ∙ ap (λ (k : ℕ). take (length (B kind low high)) (drop k (both ++ B kind low high))) (sym long)
              ∙ ap (take (length (B kind low high))) (drop-append_seam both (B kind low high)) ∙ take-length (B kind low high);
        }

    written : (ps : List (List (PieceStep files hs s))) → Each (λ p. HoldsAt d (p.first * album_frame (tracks_of files) s) p.out) (map (step files hs s g taken) (flat_map (λ p. p) ps))
        → FileWritten ps kind low high file
    written ps e = record {
      long = file_long;
      headed = record { is = take-append_seam (F kind low high) (mine ++ B kind low high) };
      each = of_all ps (of_steps (flat_map (λ p. p) ps) e);
      padded = pad_held;
    }

    -- as the definition has it
    pub meets : (ps : List (List (PieceStep files hs s))) → Each (λ p. HoldsAt d (p.first * album_frame (tracks_of files) s) p.out) (map (step files hs s g taken) (flat_map (λ p. p) ps))
        → FileWritten ps kind low high (file_of files s kind mine)
    meets ps e = subst (λ (l : List ℕ). FileWritten ps kind low high l) (file_is files hs s g taken kind low high mine mine_long) (written ps e)

  module _ (ps : List (List (PieceStep files hs s))) (e : Each (λ p. HoldsAt d (p.first * album_frame (tracks_of files) s) p.out) (map (step files hs s g taken) (flat_map (λ p. p) ps))) where
    track_meets : (kind : HeaderKind) (k : ℕ) → k < length files → TrackWritten ps kind k (file_of files s kind (track_data (tracks_of files) s k))
    unfolding track_data
    track_meets kind k h =
        let n' = tracks_channels (heads (tracks_of files)) in
        let low = data_start s.rate n' (heads (tracks_of files)) k in
        let high = data_start s.rate n' (heads (tracks_of files)) (k + 1) in
        let there : k < length (tracks_of files) = rw (length_files files hs s g taken files) h in
        let ends : high ≤ length d = rw (album_long (tracks_of files) s taken) (track_within (tracks_of files) s taken k there) in
        rw (mark_is files hs s g taken k, mark_is files hs s g taken (k + 1)) (meets kind low high ends ps e)

    all_of_it : (high : ℕ) → high ≡ length d → part 0 high d ≡ d
    all_of_it high e = rw (e, sub-zero (length d)) (take-length d)

    all_meets : (kind : HeaderKind) → AllWritten ps kind (file_of files s kind d)
    all_meets kind =
        let high = tracks_frames (heads (tracks_of files)) * album_frame (tracks_of files) s in
        let long : high ≡ length d = sym (album_long (tracks_of files) s taken) in
        rw (end_is files hs s g taken)
        (subst (λ (l : List ℕ). FileWritten ps kind 0 high (file_of files s kind l)) (all_of_it high long) (meets kind 0 high (omega (arith, long)) ps e))

pub plan_meets : PlanMeets
unfolding flat_map
plan_meets files hs s jobs ps g taken some most e =
    let few = (opened files hs s g taken).few in
    let cs = flat_map (λ p. p) ps in
    let steps = map (step_of files hs s g taken) cs in
    let cut = calls_cut files hs s g taken cs (parts_are_all files hs s jobs few some most ps e) in
    let whole = (tracks_to_files (tracks_of files) s steps taken cut).whole in
    let d = album_data (tracks_of files) s in
    let held = each_held (tracks_of files) s taken d 0 steps cut (rw (zero-mul (album_frame (tracks_of files) s)) (sym whole)) in
    record { tracks = track_meets files hs s g taken ps held; all = all_meets files hs s g taken ps held }
