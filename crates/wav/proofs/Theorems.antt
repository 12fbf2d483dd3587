-- A file made from a run is read back, and the writer's promise leaves nothing free.
use Rattle.std.proofs.Common.{◌≡◌, sym, ap, subst, ◌∙◌, List, Bool, ℕ, ◌*◌, arith, length}
use Rattle.reference.specs.Frames.{Run, frame_count}
use Rattle.reference.specs.Output.{samples_per_frame, channel_samples, all_samples, samples, s24le}
use Rattle.reference.specs.Refusals.{rack, accepted, decide}
use Rattle.reference.specs.Promises.{Converted}
use Rattle.reference.specs.declared.Converter.{Converter}
use Rattle.reference.proofs.Refusals.{some_channel, few_frames}
use Rattle.reference.proofs.Promises.{exit_accepted, answers_exact}
use Rattle.wav_format.specs.Wav.{wav_file, frame_size, Right}
use Rattle.wav_format.specs.Promises.{ReadPromise, file_samples}
use Rattle.wav_format.proofs.Theorems.{read_back, samples_back}
use Rattle.wav.specs.Theorems.{ConvertedRead}
use Rattle.wav_checks.specs.Places.{run_bytes, wav_places}
use Rattle.wav.specs.Promises.{WavPromise}
use Rattle.wav_checks.proofs.Accepted.{opens_of, fits_of, two_channels, data_told}
use Rattle.wav.proofs.Converting.{length_data}

in_frames : (conv : Converter) (r : Run) → run_bytes conv r ≡ frame_count conv.channels r.frames * frame_size conv.rate conv.channels
unfolding run_bytes all_samples channel_samples frame_size
in_frames conv r = regroup (frame_count conv.channels r.frames) (samples_per_frame conv.rate) conv.channels
  where
    regroup : (f p c : ℕ) → 3 * (f * p * c) ≡ f * (3 * p * c)
    regroup f p c = omega arith

-- the reader takes data of an accepted call
run_right : (conv : Converter) (r : Run) (lent : Bool) (out counts : List ℕ) → decide (wav_places conv r out lent counts) ≡ accepted → Right conv.rate conv.channels (length (s24le (samples conv r)))
run_right conv r lent out counts ok =
    let n = length_data conv r in
    record {
      some = some_channel conv (opens_of conv r out lent counts ok);
      few = two_channels conv r out lent counts ok;
      frames = frame_count conv.channels r.frames;
      whole = n ∙ in_frames conv r;
      at_most = few_frames rack conv r (fits_of conv r out lent counts ok);
      told = rw n (data_told conv r out lent counts ok);
    }

-- written, then read
pub converted_read : ConvertedRead
converted_read conv r lent out counts out' counts' done w v a p =
    let ok : decide (wav_places conv r out lent counts) ≡ accepted = sym w.answered.decided ∙ v in
    let h = run_right conv r lent out counts ok in
    let l = s24le (samples conv r) in
    let e : out' ≡ wav_file conv.rate conv.channels l = w.written ∙ exit_accepted _ (wav_file conv.rate conv.channels l) out ok in
    (read_back conv.rate conv.channels l h a (subst (λ (x : List ℕ). ReadPromise x a) e p), ap file_samples e ∙ samples_back conv.rate conv.channels l h)

pub wav_exact : (conv : Converter) (r : Run) (lent : Bool) (out counts o o' c c' : List ℕ) (a b : Converted)
    → WavPromise conv r lent out counts o c a → WavPromise conv r lent out counts o' c' b → (a ≡ b) × (o ≡ o') × (c ≡ c')
wav_exact conv r lent out counts o o' c c' a b p q =
    (answers_exact a b (p.answered.decided ∙ sym q.answered.decided) (p.answered.counted ∙ sym q.answered.counted), p.written ∙ sym q.written, p.per_frame ∙ sym q.per_frame)
