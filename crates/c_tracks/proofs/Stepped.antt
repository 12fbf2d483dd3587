-- What a step tells.
use Rattle.std.proofs.Common.{◌≡◌, Result, Ok, Err, IfOk, List, ℕ, length, Float, sym, ap, subst, refl, ◌∙◌}
use Rattle.reference.specs.Frames.{Run}
use Rattle.reference.specs.Output.{stats}
use Rattle.reference.specs.Refusals.{Decision, Place, is_accepted, decide, decision}
use Rattle.reference.specs.Promises.{stats_told, Answered}
use Rattle.reference.specs.declared.Converter.{Converter}
use Rattle.reference.specs.declared.ConvertStats.{ConvertStats}
use Rattle.reference.specs.declared.Settings.{Settings}
use Rattle.reference.proofs.Promises.{exit_accepted, exit_refused}
use Rattle.reference.proofs.Refusals.{error_refuses}
use Rattle.codes.specs.Told.{if_ok, ToldWhole}
use Rattle.c_stats.specs.Stats.{stat_numbers}
use Rattle.c_stats.specs.Conversions.{Results}
use Rattle.c_stats.proofs.Conversions.{conversion_done}
use Rattle.tracks.specs.Tracks.{Head, tracks_converter}
use Rattle.tracks_open.specs.Open as albums
use Rattle.tracks_open.specs.declared.Album.{Album}
use Rattle.tracks_open.specs.declared.Refused.{Refused}
use Rattle.tracks_step.specs.Promises.{frames_places, step_places, piece_run, FramesPromise, StepPromise}
use Rattle.c_tracks.specs.Steps.{FramesDone, Lists, StepDone}
use Rattle.c_tracks.specs.inner.Told.{reason}

reason_decides : {A : Type 0} (o : Result A Refused) → decision (reason o) ≡ albums.tracks_decision o
reason_decides (Ok a) = refl
reason_decides (Err e) = refl

answered : (places : List Place) (conv : Converter) (r : Run) (o : Result ConvertStats Refused)
    → albums.tracks_decision o ≡ decide places → IfOk o (λ t. t ≡ stats conv r) → Answered places conv r (reason o)
unfolding stats_told is_accepted
answered places conv r (Ok t) d e = record { decided = d; counted = e ∙ sym (exit_accepted (decide places) _ _ (sym d)) }
answered places conv r (Err x) d e = record { decided = d; counted = sym (exit_refused (decide places) _ _ (ap is_accepted (sym d) ∙ error_refuses x.error)) }

module _ (hs : List Head) (s : Settings) (first count : ℕ) (w : List ℕ) where
  pub frames_done : (scratch scratch' : List ℕ) (o : Result Album Refused) → FramesPromise hs s first count w scratch scratch' o → {data' : List ℕ} {decibels' : List Float} {answer : ℕ}
      → ToldWhole (decision (reason o)) answer data' decibels'
      → FramesDone (decide (frames_places hs s first count (length w) (length scratch))) hs first count w scratch scratch' data' decibels' answer
  frames_done scratch scratch' o p {data'} {decibels'} {answer} t =
      record { told = subst (λ (x : Decision). ToldWhole x answer data' decibels') (reason_decides o ∙ p.decided) t; gathered = p.gathered }

  pub step_done : (l l' : Lists) (o : Result ConvertStats Refused) → StepPromise hs s first count w l.scratch l'.scratch l.out l'.out o → (old new : Results) {answer : ℕ}
      → ToldWhole (decision (reason o)) answer new.«data» new.decibels → new.stats ≡ if_ok stat_numbers (reason o) old.stats
      → StepDone (decide (step_places hs s first count (length w) (length l.scratch) (length l.out))) hs s first count w l l' old new answer
  step_done l l' o p old new t c =
      let places = step_places hs s first count (length w) (length l.scratch) (length l.out) in
      record {
        done = conversion_done places (tracks_converter s hs) (piece_run hs first count w) (reason o)
            (answered places (tracks_converter s hs) (piece_run hs first count w) o p.decided p.counted) old new t c;
        gathered = p.gathered;
        written = p.written;
      }
