-- What the contract of `step` ensures of a call is, word for word, `StepPromise`; so a call with what the plan tells of
-- a piece is one of the theorem's.
use Rattle.std.proofs.Common.{◌≡◌, refl, List, ℕ, length, Some}
use seplogic.Ra.Ura.{Ura}
use base.Logic.{SProp}
use prog.Memory.{Memory}
use prog.Routine.{Routine}
use types.Logic.{Logic}
use contract.Lifetimes.{Lfts}
use contract.Monad.{fact, Fun}
use denote.Triple.Entry.{Args, Res}
use denote.Triple.Clauses.{AtExit}
use denote.Triple.Spec.{exits}
use Rattle.tracks.specs.Tracks.{Head, heads_of, tracks_channels}
use Rattle.tracks.specs.Windows.{WindowsOf}
use Rattle.tracks_open.specs.Open.{album_of}
use Rattle.tracks_plan.specs.Plan.{piece_at}
use Rattle.tracks_plan.specs.declared.cutting.Piece.{Piece}
use Rattle.tracks_step.specs.Promises.{piece_windows, StepPromise}
use Rattle.tracks_step.specs.contracts.step as step
use Rattle.tracks_to_files.specs.Calls.{PieceStep}

-- of a call of `step`, its arguments a, its answer r, the lent lists s at exit
abbrev pub step_said : (κs : Lfts 4) (a : Args step.signature κs) → Res step.signature κs → AtExit step.ended κs → Type 0
step_said κs a r s =
    StepPromise (heads_of a.0.heads.now a.0.lengths.now) a.1.0 a.1.1.0 a.1.1.1.0 a.1.1.1.1.0.now a.1.1.1.1.1.0.now s.1.1.1.1.1.0.now a.1.1.1.1.1.1.0.now
    s.1.1.1.1.1.1.0.now r

module _ {M : Type 1} {𝓤 : Ura M} (𝓛 : Logic 𝓤) (mem : Memory → SProp 𝓤) (runs : Routine → Fun 𝓤) where
  pub step_ensures : (κs : Lfts 4) (a : Args step.signature κs) (r : Res step.signature κs)
      → (step.spec 𝓛 mem runs κs a).ensures tt r ≡ exits 𝓛 step.signature (step.ended).kept κs a (λ s. fact 𝓤 (step_said κs a r s))
  step_ensures κs a r = refl

module _ (κs : Lfts 4) (a : Args step.signature κs) (r : Res step.signature κs) (s : AtExit step.ended κs) (files : List (List ℕ)) where
  abbrev hs : List Head
  hs = heads_of a.0.heads.now a.0.lengths.now

  -- its numbers are those of piece i, its windows the files' stretches, and the lists that it was lent as long as is
  -- told
  pub record OfPiece (i : ℕ) : Type 0 where
    pub piece : Piece
    pub planned : piece_at (album_of (a.1.0).rate hs) i ≡ Some piece
    pub first : a.1.1.0 ≡ piece.first
    pub count : a.1.1.1.0 ≡ piece.count
    pub of_windows : WindowsOf files hs (tracks_channels hs) piece.first piece.count a.1.1.1.1.0.now
    pub long : length a.1.1.1.1.0.now ≡ piece_windows hs piece.first piece.count
    pub held : length a.1.1.1.1.1.0.now ≡ piece.scratch
    pub lent : length a.1.1.1.1.1.1.0.now ≡ piece.bytes

  pub piece_call : (i : ℕ) → OfPiece i → step_said κs a r s → PieceStep files hs a.1.0
  piece_call i o p = record {
    i = i;
    piece = o.piece;
    planned = o.planned;
    windows = a.1.1.1.1.0.now;
    of_windows = o.of_windows;
    long = o.long;
    scratch = a.1.1.1.1.1.0.now;
    scratch' = s.1.1.1.1.1.0.now;
    held = o.held;
    out = a.1.1.1.1.1.1.0.now;
    out' = s.1.1.1.1.1.1.0.now;
    lent = o.lent;
    answer = r;
    promise = rw (← o.first, ← o.count) p;
  }
