-- Request 5's theorem: calls whose pieces join to a run have, together, the overs of the uncut run.
use Rattle.std.specs.Prelude.{◌≡◌, List, [], ◌∷◌, ◌++◌, cond, ℕ, ◌+◌, ◌*◌, ◌/◌, ◌<◌, ℤ, length, take, drop}
use Rattle.numbers.specs.Lists.{tabulate}
use Rattle.reference.specs.Frames.{Run, frame_count}
use Rattle.reference.specs.Output.{samples_per_frame, sample}
use Rattle.reference.specs.declared.Converter.{Converter}
use Rattle.joins.specs.Joins.{Call, run_of, samples_of, is_answered_accepted, AcceptedConverter, AcceptedRun, JoinTo}
use Rattle.overs.specs.Overs.{Progress, none, overs_from, after, channel}
use Rattle.overs_joins.specs.Signal.{overs, in_progress}

-- overs of channel c in frame f of a run: the samples of the frame that are the third of an over of the run
unfoldable pub frame_overs : Converter → Run → ℕ → ℕ → ℕ
frame_overs conv r c f = overs (sample conv r c) (f * samples_per_frame conv.rate) (samples_per_frame conv.rate)

-- overs of each stretch of `per` samples, the state carried from each to the next
unfoldable pub by_frames : ℕ → Progress → List ℤ → List ℕ
by_frames per p zs = tabulate (λ f. overs_from (after p (take (f * per) zs)) (take per (drop (f * per) zs))) 0 (length zs / per)

module _ {conv : Converter} where
  -- channel c's samples of a call, and its frames: none where it is refused
  unfoldable pub call_samples : ℕ → Call conv → List ℤ
  call_samples c call = cond (is_answered_accepted call) (channel (samples_of call) conv.channels c) []

  unfoldable pub call_frames : Call conv → ℕ
  call_frames call = cond (is_answered_accepted call) (frame_count conv.channels (run_of call).frames) 0

  -- overs of channel c by frame, of all calls end to end: each starts with what is in progress at the end of the one
  -- before
  unfoldable pub calls_overs : ℕ → Progress → List (Call conv) → List ℕ
  calls_overs c p [] = []
  calls_overs c p (call ∷ calls) = by_frames (samples_per_frame conv.rate) p (call_samples c call) ++ calls_overs c (after p (call_samples c call)) calls

  -- as the uncut run has them, the first call after a frames: what each call starts with and the last ends with, and
  -- each call's overs
  abbrev pub AsUncut : Run → ℕ → ℕ → Progress → List (Call conv) → Type 0
  AsUncut r c a p [] = p ≡ in_progress (sample conv r c) (a * samples_per_frame conv.rate)
  AsUncut r c a p (call ∷ calls) =
      (p ≡ in_progress (sample conv r c) (a * samples_per_frame conv.rate))
      × (by_frames (samples_per_frame conv.rate) p (call_samples c call) ≡ tabulate (frame_overs conv r c) a (call_frames call))
      × AsUncut r c (a + call_frames call) (after p (call_samples c call)) calls

pub record GiveWholeOvers {conv : Converter} (r : Run) (calls : List (Call conv)) : Type 0 where
  pub joined : (c : ℕ) → c < conv.channels → calls_overs c none calls ≡ tabulate (frame_overs conv r c) 0 (frame_count conv.channels r.frames)
  pub uncut : (c : ℕ) → c < conv.channels → AsUncut r c 0 none calls

-- request 5's theorem, proved in proofs/Joins
abbrev pub OversJoin : Type 0
OversJoin = (conv : Converter) (r : Run) (calls : List (Call conv)) → AcceptedConverter conv → AcceptedRun conv r → JoinTo r calls → GiveWholeOvers r calls
