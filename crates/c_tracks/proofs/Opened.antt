-- What opening tells.
use Rattle.std.proofs.Common.{◌≡◌, None, replicate, Result, Ok, Err, false, List, [], ◌∷◌, length, ℕ, ◌+◌, ◌*◌, ◌≤◌, sym, ap, subst, refl, ◌∙◌}
use Rattle.reference.specs.Refusals.{Decision, accepted, is_accepted, decide, decision, refusal_number}
use Rattle.reference.specs.declared.Settings.{Settings}
use Rattle.reference.proofs.Promises.{exit_accepted, exit_refused}
use Rattle.reference.proofs.Refusals.{error_refuses}
use Rattle.codes.specs.Told.{ToldWhole}
use Rattle.numbers.specs.Lists.{tabulate}
use Rattle.numbers.proofs.Lists.{length_tabulate}
use Rattle.reference.specs.declared.PcmRate.{PcmRate}
use Rattle.tracks.specs.Tracks.{Head, head_at, heads_of, data_start, tracks_frames, open_places}
use Rattle.tracks_open.specs.Open.{numbers, album_of, AlbumFits}
use Rattle.tracks_open.specs.inner.Open.{TracksArgs, OpenPromise}
use Rattle.tracks_open.specs.declared.Album.{Album}
use Rattle.tracks_open.specs.declared.Refused.{Refused}
use Rattle.tracks_open.proofs.Accepted.{accepted_few, album_fits, none_refused}
use Rattle.tracks_plan.specs.inner.Asked.{SizedTracks}
use Rattle.tracks_plan.specs.Plan.{piece_at}
use Rattle.c_tracks.specs.Calls.{Outputs, OpenAlbumDone, all_marks, PieceDone, plan_numbers, read_numbers}
use Rattle.c_tracks.specs.inner.Calls.{marks_after, PlanArgs}
use Rattle.c_tracks.specs.Told.{album_numbers}
use Rattle.c_tracks.specs.inner.Told.{reason, named, album_after}

module _ (hs : List Head) (s : Settings) where
  abbrev d : Decision
  d = decide (open_places hs s)

  pub open_done : (o : Result Album Refused) → OpenPromise hs s o → (old new : Outputs) {answer : ℕ} → ToldWhole (decision (reason o)) answer new.«data» new.decibels
      → new.track ≡ named o ∷ [] → new.album ≡ album_after o old.album → new.marks ≡ marks_after o s hs old.marks → OpenAlbumDone d hs s old new answer
  unfolding album_of numbers
  open_done (Ok a) p old new {answer} t n w m =
      let yes : d ≡ accepted = sym p.decided in
      record {
        told = subst (λ (x : Decision). ToldWhole x answer new.«data» new.decibels) p.decided t;
        named = n ∙ ap (λ (k : ℕ). k ∷ []) (sym (none_refused hs s yes));
        written = w ∙ ap album_numbers p.album ∙ sym (exit_accepted d _ _ yes);
        marked = m ∙ ap (λ (b : Album). all_marks s.rate b.channels hs) p.album ∙ sym (exit_accepted d _ _ yes);
      }
  open_done (Err e) p old new {answer} t n w m =
      let no : is_accepted d ≡ false = ap is_accepted (sym p.decided) ∙ error_refuses e.error in
      record {
        told = subst (λ (x : Decision). ToldWhole x answer new.«data» new.decibels) p.decided t;
        named = n ∙ ap (λ (k : ℕ). k ∷ []) p.named;
        written = w ∙ sym (exit_refused d _ _ no);
        marked = m ∙ sym (exit_refused d _ _ no);
      }

  pub piece_refused : (e : Refused) → OpenPromise hs s (Err e) → (i : ℕ) (plan asked : List ℕ) {answer : ℕ} → answer ≡ refusal_number (decision (reason {A = Album} (Err e)))
      → PieceDone d (album_of s.rate hs) hs i plan plan asked asked answer
  piece_refused e p i plan asked n =
      let no : is_accepted d ≡ false = ap is_accepted (sym p.decided) ∙ error_refuses e.error in
      record { number = n ∙ ap refusal_number p.decided; planned = sym (exit_refused d _ _ no); read = sym (exit_refused d _ _ no) }

  pub piece_told : (a : Album) → OpenPromise hs s (Ok a) → (i : ℕ) (plan plan' asked asked' : List ℕ) → plan' ≡ plan_numbers a hs i → asked' ≡ read_numbers a hs i
      → PieceDone d (album_of s.rate hs) hs i plan plan' asked asked' 0
  piece_told a p i plan plan' asked asked' w r =
      let yes : d ≡ accepted = sym p.decided in
      record {
        number = ap refusal_number p.decided;
        planned = w ∙ ap (λ (b : Album). plan_numbers b hs i) p.album ∙ sym (exit_accepted d _ _ yes);
        read = r ∙ ap (λ (b : Album). read_numbers b hs i) p.album ∙ sym (exit_accepted d _ _ yes);
      }

module _ (bytes lengths : List ℕ) (args : TracksArgs bytes lengths) (s : Settings) (a : Album) (p : OpenPromise (heads_of bytes lengths) s (Ok a)) where
  pub sized : SizedTracks bytes lengths
  sized = record { args = args; most = (accepted_few (heads_of bytes lengths) s (sym p.decided)).1 }

  pub fits : AlbumFits a
  fits = rw p.album (album_fits (heads_of bytes lengths) s (sym p.decided))

  pub few : a.channels ≤ 6
  few = fits.few

  pub plan_args : (room : ℕ) → room ≡ 2 * length lengths → PlanArgs bytes lengths a room
  unfolding album_of numbers tracks_frames
  plan_args room e = record { sized = sized; fits = fits; frames = rw p.album refl; lent = e }

pub marks_are : (bytes lengths : List ℕ) (rate : PcmRate) (n : ℕ) (out : List ℕ) → out ≡ tabulate (data_start rate n (heads_of bytes lengths)) 0 (length lengths + 1)
    → out ≡ all_marks rate n (heads_of bytes lengths)
unfolding heads_of
marks_are bytes lengths rate n out e = e ∙ rw (length_tabulate (head_at bytes lengths) 0 (length lengths)) refl

pub none_read : (bytes lengths : List ℕ) (a : Album) (i : ℕ) (out : List ℕ) → piece_at a i ≡ None → out ≡ replicate (2 * length lengths) 0 → out ≡ read_numbers a (heads_of bytes lengths) i
unfolding heads_of
none_read bytes lengths a i out n e = e ∙ rw (n, length_tabulate (head_at bytes lengths) 0 (length lengths)) refl
