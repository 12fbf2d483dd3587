-- A call of `step` that is accepted is a step.
use Rattle.std.proofs.Common.{◌≡◌, refl, sym, ap, ◌∙◌, true≢false, List, ℕ, ◌+◌, ◌≤◌, leb, length, leb-true, Result, Ok, Err, IfOk}
use borrow.Author.Tests.{not-false}
use Rattle.reference.specs.Frames.{Run}
use Rattle.reference.specs.Output.{samples, stats, s24le}
use Rattle.reference.specs.Settings.{converter_of}
use Rattle.reference.specs.Refusals.{decide, accepted, is_accepted}
use Rattle.reference.specs.declared.Settings.{Settings}
use Rattle.reference.specs.declared.ConvertStats.{ConvertStats}
use Rattle.reference.proofs.Refusals.{decide_first, decide_skip, pass, error_refuses}
use Rattle.reference.proofs.Promises.{exit_accepted}
use Rattle.tracks.specs.Tracks.{Head, heads, settings_for, tracks_channels, tracks_frames, tracks_converter, tracks_piece, open_places}
use Rattle.tracks.specs.Windows.{HeadsOf}
use Rattle.tracks.proofs.Opened.{Opened, is_opened}
use Rattle.tracks.proofs.Windows.{windowed_piece}
use Rattle.tracks_open.specs.Open.{tracks_decision}
use Rattle.tracks_open.specs.declared.Refused.{Refused}
use Rattle.tracks_step.specs.Promises.{piece_places, frames_places, step_places, piece_run}
use Rattle.tracks_to_files.specs.Heads.{tracks_of, HeadsAgree}
use Rattle.tracks_to_files.specs.Calls.{stats_of}
use Rattle.tracks_to_files.specs.Steps.{TakenCall, CallIsStep}
use Rattle.tracks_to_files.proofs.Heads.{heads_tell}

-- ---- answers
stats_are : (answer : Result ConvertStats Refused) {t : ConvertStats} → tracks_decision answer ≡ accepted → IfOk answer (λ x. x ≡ t) → stats_of answer ≡ t
unfolding is_accepted
stats_are (Ok x) d e = e
stats_are (Err e) d n = absurd (true≢false (ap is_accepted (sym d) ∙ error_refuses e.error))

module _ (files : List (List ℕ)) (hs : List Head) (s : Settings) (g : HeadsOf files hs) (taken : decide (open_places (heads (tracks_of files)) s) ≡ accepted) where
  pub told : HeadsAgree files hs s
  told = heads_tell files hs s g

  pub opens : decide (open_places hs s) ≡ accepted
  opens = told.opened ∙ taken

  pub opened : Opened hs s
  opened = is_opened hs s opens

  -- ---- a call that was taken
  module _ (c : TakenCall files hs s) where
    abbrev n' : ℕ
    n' = tracks_channels (heads (tracks_of files))

    ok : decide (step_places hs s c.first c.count (length c.windows) (length c.scratch) (length c.out)) ≡ accepted
    ok = sym c.promise.decided ∙ c.taken

    -- its frames are the album's
    within : c.first + c.count ≤ tracks_frames hs
    unfolding step_places frames_places piece_places
    within =
        let frames = decide_first (frames_places hs s c.first c.count (length c.windows) (length c.scratch)) _ ok in
        let piece = sym (decide_skip (open_places hs s) _ opens) ∙ frames in
        leb-true (c.first + c.count) (tracks_frames hs) (not-false (leb (c.first + c.count) (tracks_frames hs)) (pass _ _ piece).0)

    run_is : piece_run hs c.first c.count c.windows ≡ tracks_piece (tracks_channels hs) (tracks_of files) c.first c.count
    run_is = windowed_piece (tracks_channels hs) files hs c.first c.count c.windows g opened.alike within c.of_windows

    pub step_bytes : c.out' ≡ s24le (samples (tracks_converter s (heads (tracks_of files))) (tracks_piece n' (tracks_of files) c.first c.count))
    step_bytes =
        c.promise.written ∙ exit_accepted _ _ _ ok ∙ ap (λ (r : Run). s24le (samples (tracks_converter s hs) r)) run_is
        ∙ ap (λ (m : ℕ). s24le (samples (converter_of (settings_for s m)) (tracks_piece m (tracks_of files) c.first c.count))) told.channels

    pub step_counted : stats_of c.answer ≡ stats (tracks_converter s (heads (tracks_of files))) (tracks_piece n' (tracks_of files) c.first c.count)
    step_counted =
        stats_are c.answer c.taken c.promise.counted ∙ ap (λ (r : Run). stats (tracks_converter s hs) r) run_is
        ∙ ap (λ (m : ℕ). stats (converter_of (settings_for s m)) (tracks_piece m (tracks_of files) c.first c.count)) told.channels

pub call_is_step : CallIsStep
call_is_step files hs s g taken c = record {
  step = record {
    first = c.first;
    count = c.count;
    out = c.out';
    told = stats_of c.answer;
    written = step_bytes files hs s g taken c;
    counted = step_counted files hs s g taken c;
  };
  first = refl;
  count = refl;
  out = refl;
  told = refl;
}
