-- Demand 3 of files: the data of the pieces end to end is the data of the whole file.
use Rattle.std.specs.Prelude.{◌≡◌, Bool, true, ℕ, drop, List, map}
use mathlib.Core.List.{flat_map}
use Rattle.reference.specs.Frames.{Run, sequence}
use Rattle.reference.specs.Refusals.{decision, decide, is_accepted}
use Rattle.reference.specs.Promises.{Converted}
use Rattle.reference.specs.Output.{samples, s24le}
use Rattle.reference.specs.declared.Converter.{Converter}
use Rattle.joins.specs.Joins.{Call, samples_of, accepted_calls, JoinTo, keep, AllAgree, AcceptedConverter, AcceptedRun}
use Rattle.wav_format.specs.Wav.{wav_file}
use Rattle.wav_checks.specs.Places.{wav_places}
use Rattle.wav.specs.Promises.{WavPromise}

-- a call of the converting writer: what it was given, what the lent lists held at entry and at exit, its answer, and
-- its promise
pub record WavCall (conv : Converter) : Type 0 where
  pub run : Run
  pub lent : Bool
  pub out : List ℕ
  pub counts : List ℕ
  pub out' : List ℕ
  pub counts' : List ℕ
  pub answer : Converted
  pub promise : WavPromise conv run lent out counts out' counts' answer

module _ {conv : Converter} where
  -- the table's condition holds at none of the call's places
  unfoldable pub right_call : WavCall conv → Bool
  right_call c = is_accepted (decide (wav_places conv c.run c.out c.lent c.counts))

  -- the answer is an acceptance
  unfoldable pub made : WavCall conv → Bool
  made c = is_accepted (decision c.answer)

  -- what stands behind the header
  abbrev pub data_of : WavCall conv → List ℕ
  data_of c = drop 44 c.out'

  -- the pieces: the runs of the calls with nothing against them
  unfoldable pub file_pieces : List (WavCall conv) → List Run
  file_pieces calls = map (λ c. c.run) (keep right_call calls)

-- the pieces join to the run, and their neighbours agree
pub record FilesJoinTo {conv : Converter} (r : Run) (calls : List (WavCall conv)) : Type 0 where
  pub bytes : flat_map (λ p. p.frames) (file_pieces calls) ≡ r.frames
  pub neighbours : AllAgree conv (sequence conv.channels r) 0 (file_pieces calls)

-- proved in proofs/Joined: the data of the files made is `convert`'s of the whole run, and so that of the whole run's
-- file
abbrev pub FilesJoin : Type 0
FilesJoin = (conv : Converter) (r : Run) (calls : List (WavCall conv)) → AcceptedConverter conv → AcceptedRun conv r → FilesJoinTo r calls
    → (flat_map data_of (keep made calls) ≡ s24le (samples conv r))
    × ((whole : WavCall conv) → whole.run ≡ r → made whole ≡ true → flat_map data_of (keep made calls) ≡ data_of whole)

-- ---- demand 3's own calls, each with its file

-- the file of the samples that a call gave
unfoldable pub call_file : {conv : Converter} → Call conv → List ℕ
call_file {conv} c = wav_file conv.rate conv.channels (s24le (samples_of c))

abbrev pub CallFilesJoin : Type 0
CallFilesJoin = (conv : Converter) (r : Run) (calls : List (Call conv)) → AcceptedConverter conv → AcceptedRun conv r → JoinTo r calls
    → flat_map (λ c. drop 44 (call_file c)) (accepted_calls calls) ≡ drop 44 (wav_file conv.rate conv.channels (s24le (samples conv r)))
