-- Demand 3: calls whose pieces join to a run give, together, what the definition gives for the whole run.
use Rattle.std.specs.Prelude.{◌≡◌, Bool, true, false, cond, ℕ, suc, ◌+◌, ◌-◌, ◌*◌, ◌/◌, ◌^◌, ◌<◌, ltb, ℤ, pos, negsuc, length, get_or, List, [], ◌∷◌, map}
use mathlib.Core.List.{flat_map, Memᴰ}
use Rattle.numbers.specs.Lists.{tabulate}
use Rattle.reference.specs.Frames.{Run, frame_bytes, frame_count, frame, before_frame, after_frame, sequence, channel_byte}
use Rattle.reference.specs.Settings.{reach_of}
use Rattle.reference.specs.Output.{samples, channel_clips, per_frame_clips, stats}
use Rattle.reference.specs.Refusals.{rack, accepted, Place, decide, decision, is_accepted, held_places, input_places, byte_lengths, run_lengths}
use Rattle.reference.specs.Promises.{Converted, stats_told, BytesPromise, ConvertRunPromise}
use Rattle.reference.specs.Statistics.{channel_of, no_stats, all_joined}
use Rattle.reference.specs.declared.Converter.{Converter}
use Rattle.reference.specs.declared.Limit.{Limit}

-- ---- a call: what it was given, what the lent lists held at entry and at exit, its answer, and its promise

-- a call of `convert`, or of the listening desk's entry
pub record ConvertCall (conv : Converter) : Type 0 where
  pub whose : Limit
  pub run : Run
  pub lent : Bool
  pub out : List ℕ
  pub counts : List ℕ
  pub out' : List ℕ
  pub counts' : List ℕ
  pub answer : Converted
  pub promise : BytesPromise whose conv run lent out counts out' counts' answer

pub record ConvertRunCall (conv : Converter) : Type 0 where
  pub run : Run
  pub out : List ℤ
  pub out' : List ℤ
  pub answer : Converted
  pub promise : ConvertRunPromise conv run out out' answer

pub data Call (conv : Converter) : Type 0 where
  convert : ConvertCall conv → Call conv
  convert_run : ConvertRunCall conv → Call conv

-- the number in -8,388,608..8,388,607 whose low 24 bits are n
unfoldable pub signed24 : ℕ → ℤ
signed24 n = cond (ltb n (2 ^ 23)) (pos n) (negsuc (2 ^ 24 - 1 - n))

-- the numbers that bytes hold, three bytes a number, least first
unfoldable pub read_s24le : List ℕ → List ℤ
read_s24le bytes = tabulate (λ i. signed24 (get_or bytes (3 * i) 0 + 256 * get_or bytes (3 * i + 1) 0 + 65536 * get_or bytes (3 * i + 2) 0)) 0 (length bytes / 3)

module _ {conv : Converter} where
  abbrev pub run_of : Call conv → Run
  run_of (convert c) = c.run
  run_of (convert_run c) = c.run

  abbrev pub answer_of : Call conv → Converted
  answer_of (convert c) = c.answer
  answer_of (convert_run c) = c.answer

  -- document 01's samples of a call
  abbrev pub samples_of : Call conv → List ℤ
  samples_of (convert c) = read_s24le c.out'
  samples_of (convert_run c) = c.out'

  abbrev pub clips_of : Call conv → ℕ → ℕ
  clips_of call c = (channel_of (stats_told (answer_of call)) c).clipped

  -- whether the call lends the per-frame list, and that list at exit
  abbrev pub lends : Call conv → Bool
  lends (convert c) = c.lent
  lends (convert_run c) = false

  abbrev pub counts_of : Call conv → List ℕ
  counts_of (convert c) = c.counts'
  counts_of (convert_run c) = []

  -- the places that the call tries from the run length on
  abbrev pub lengths : Call conv → List Place
  lengths (convert c) = byte_lengths c.whose conv c.run c.out c.lent c.counts
  lengths (convert_run c) = run_lengths conv c.run c.out

  -- document 01's right lengths: the table's condition holds at none of them
  unfoldable pub right_lengths : Call conv → Bool
  right_lengths call = is_accepted (decide (lengths call))

  unfoldable pub is_answered_accepted : Call conv → Bool
  is_answered_accepted call = is_accepted (decision (answer_of call))

  -- every lent list holds what it held
  abbrev pub Unchanged : Call conv → Type 0
  Unchanged (convert c) = (c.out' ≡ c.out) × (c.counts' ≡ c.counts)
  Unchanged (convert_run c) = c.out' ≡ c.out

-- ---- what is asked of a list of calls

-- those that pass a test, in their order
unfoldable pub keep : {A : Type 0} → (A → Bool) → List A → List A
keep p [] = []
keep p (x ∷ xs) = cond (p x) (x ∷ keep p xs) (keep p xs)

-- document 01's pieces: the runs of the calls with right lengths
unfoldable pub pieces : {conv : Converter} → List (Call conv) → List Run
pieces calls = map run_of (keep right_lengths calls)

-- in each channel, n bytes from position `start` on are equal
pub record SameBytes (channels start n : ℕ) (a b : List ℕ) : Type 0 where
  pub same : (c k : ℕ) → c < channels → k < n → channel_byte channels a c (start + k) ≡ channel_byte channels b c (start + k)

-- a piece's neighbours agree with the true frames: in each channel, on the reach
pub record Agree (conv : Converter) (true-before : List ℕ) (piece : Run) (true-after : List ℕ) : Type 0 where
  pub last : SameBytes conv.channels (frame_bytes - reach_of conv) (reach_of conv) (before_frame conv.channels piece) true-before
  pub first : SameBytes conv.channels 0 (reach_of conv) (after_frame conv.channels piece) true-after

-- so do all pieces', the first after `start` frames of the run; frame 0 of the sequence is the one before the run
abbrev pub AllAgree : Converter → List ℕ → ℕ → List Run → Type 0
AllAgree conv frames start [] = Unit {0}
AllAgree conv frames start (p ∷ ps) =
    let next = start + frame_count conv.channels p.frames in
    Agree conv (frame conv.channels frames start) p (frame conv.channels frames (suc next)) × AllAgree conv frames next ps

-- the pieces join to the run, and their neighbours agree
pub record JoinTo {conv : Converter} (r : Run) (calls : List (Call conv)) : Type 0 where
  pub bytes : flat_map (λ p. p.frames) (pieces calls) ≡ r.frames
  pub neighbours : AllAgree conv (sequence conv.channels r) 0 (pieces calls)

-- document 01's accepted converter and accepted run
pub record AcceptedConverter (conv : Converter) : Type 0 where
  pub opens : decide (held_places conv) ≡ accepted

pub record AcceptedRun (conv : Converter) (r : Run) : Type 0 where
  pub fits : decide (input_places rack conv r) ≡ accepted

-- ---- what follows

-- a call with right lengths is accepted; every other is refused, and changes and counts nothing
pub record Decided {conv : Converter} (call : Call conv) : Type 0 where
  pub right : right_lengths call ≡ true → is_answered_accepted call ≡ true
  pub wrong : right_lengths call ≡ false → is_answered_accepted call ≡ false
  pub unchanged : right_lengths call ≡ false → Unchanged call
  pub uncounted : right_lengths call ≡ false → stats_told (answer_of call) ≡ no_stats

-- n₀ + n₁ + …
unfoldable pub add_up : List ℕ → ℕ
add_up [] = 0
add_up (n ∷ ns) = n + add_up ns

abbrev pub accepted_calls : {conv : Converter} → List (Call conv) → List (Call conv)
accepted_calls calls = keep is_answered_accepted calls

-- the accepted calls together: samples end to end, clip counts summed channel by channel, per-frame counts end to end
-- where each lends the list, and request 6's statistics joined: the least and the greatest over the calls
pub record GiveWholeRun {conv : Converter} (r : Run) (calls : List (Call conv)) : Type 0 where
  pub decided : (call : Call conv) → Memᴰ call calls → Decided call
  pub sampled : flat_map samples_of (accepted_calls calls) ≡ samples conv r
  pub counted : (c : ℕ) → c < 6 → add_up (map (λ call. clips_of call c) (accepted_calls calls)) ≡ channel_clips conv r c
  pub per_frame : ((call : Call conv) → Memᴰ call (accepted_calls calls) → lends call ≡ true)
      → flat_map counts_of (accepted_calls calls) ≡ per_frame_clips conv r
  pub told : all_joined (map (λ call. stats_told (answer_of call)) (accepted_calls calls)) ≡ stats conv r

-- demand 3, proved in proofs/Joins
abbrev pub CutRunsJoin : Type 0
CutRunsJoin = (conv : Converter) (r : Run) (calls : List (Call conv)) → AcceptedConverter conv → AcceptedRun conv r → JoinTo r calls → GiveWholeRun r calls
