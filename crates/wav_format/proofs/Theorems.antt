-- Files written and read: the reader takes exactly the files of the definition, what is written is read back, what is
-- read is written back; and a promise leaves nothing free.
use Rattle.std.proofs.Common.{◌≡◌, refl, sym, ap, subst, ◌∙◌, List, true, ℕ, ◌+◌, T, length, drop, Result, Ok, Err, is_err}
use Rattle.reference.specs.Refusals.{accepted, decide}
use Rattle.reference.specs.declared.PcmRate.{PcmRate}
use Rattle.reference.specs.declared.PcmError.{PcmError}
use Rattle.reference.proofs.Promises.{exit_accepted, decision_exact}
use Rattle.wav_format.specs.Theorems.{format, TakesExactly, WavWrittenRead, WrittenBack, TakenWith, TakenWithIs}
use Rattle.wav_format.specs.Wav.{wav_file, Right, Taken, right_data}
use Rattle.wav_format.specs.Places.{write_places}
use Rattle.wav_format.specs.Promises.{ReadPromise, file_samples, WritePromise}
use Rattle.wav_format.specs.declared.WavFormat.{WavFormat}
use Rattle.wav_format.proofs.Reading.{right_of, right_is, takes_taken, taken_takes, of_file, data_is, length_file, read_accepts, accepts_read, read_refuses, tells}
use Rattle.wav_format.proofs.Writing.{samples_there, accepted_right, writes}

-- ---- which files are taken

pub takes_exactly : TakesExactly
takes_exactly file =
    (λ e. takes_taken file (accepts_read file e), λ t. read_accepts file (taken_takes file t), λ n. read_refuses file (λ e. n (takes_taken file e)))

-- so a file of the definition is never refused, and any other always
pub answered_taken : (file : List ℕ) (f : WavFormat) → ReadPromise file (Ok f) → Taken file
answered_taken file f p = (takes_exactly file).0 (sym p.decided)

pub answered_not : (file : List ℕ) (x : PcmError) → ReadPromise file (Err x) → Taken file → ⊥
answered_not file x p t = subst (λ (r : Result WavFormat PcmError). T (is_err r)) (p.told t) tt

-- ---- written, then read

module _ (rate : PcmRate) (channels : ℕ) (l : List ℕ) (right : Right rate channels (length l)) where
  abbrev pub the_file : Taken (wav_file rate channels l)
  the_file = record { rate = rate; channels = channels; samples = l; is = refl; right = right }

  pub read_back : (a : Result WavFormat PcmError) → ReadPromise (wav_file rate channels l) a → a ≡ Ok (format rate channels)
  read_back a p = p.told the_file

  pub samples_back : file_samples (wav_file rate channels l) ≡ l
  samples_back = sym (samples_there (wav_file rate channels l) (taken_takes _ the_file)) ∙ data_is rate channels l

-- by the second entry
pub written_read : WavWrittenRead
written_read rate channels l out out' w a p =
    let ok : decide (write_places rate channels l (length out)) ≡ accepted = sym w.decided in
    let r = right_is rate channels (length l) (accepted_right rate channels l out ok) in
    let e : out' ≡ wav_file rate channels l = w.written ∙ exit_accepted _ (wav_file rate channels l) out ok in
    (read_back rate channels l r a (subst (λ (x : List ℕ). ReadPromise x a) e p), ap file_samples e ∙ samples_back rate channels l r)

-- ---- read, then written back

same_format : (f g : WavFormat) → ◌≡◌ {A = Result WavFormat PcmError} (Ok f) (Ok g) → f ≡ g
same_format f g p = cc

-- a file answered with a format is the file of that format and its samples
answered_is : (file : List ℕ) (f : WavFormat) → ReadPromise file (Ok f) → (file ≡ wav_file f.rate f.channels (file_samples file)) × Right f.rate f.channels (length (file_samples file))
answered_is file f p =
    let t = answered_taken file f p in
    let s : t.samples ≡ file_samples file =
    sym (data_is t.rate t.channels t.samples) ∙ ap (drop 44) (sym t.is) ∙ samples_there file (taken_takes file t) in
    let g = same_format f (format t.rate t.channels) (p.told t) in
    subst (λ (x : WavFormat). (file ≡ wav_file x.rate x.channels (file_samples file)) × Right x.rate x.channels (length (file_samples file))) (sym g)
    (t.is ∙ ap (wav_file t.rate t.channels) s, subst (λ (l : List ℕ). Right t.rate t.channels (length l)) s t.right)

pub written_back : WrittenBack
written_back file f p out out' v n w =
    let a = answered_is file f p in
    let m : length out ≡ 44 + length (file_samples file) = n ∙ ap length a.0 ∙ length_file f.rate f.channels (file_samples file) in
    let q = writes f.rate f.channels (file_samples file) out (right_of _ _ _ a.1) file m a.0 in
    (decision_exact v (Ok tt) (w.decided ∙ sym q.decided), w.written ∙ sym q.written)

-- ---- 12 of the second entry

pub taken_with : TakenWithIs
taken_with rate channels l = (to, from)
  where
    to : TakenWith rate channels l → right_data rate channels (length l) ≡ true
    to t = right_of rate channels (length l) (rw t.samples at (answered_is t.file (format rate channels) t.read).1)

    from : right_data rate channels (length l) ≡ true → TakenWith rate channels l
    from e =
        let r = right_is rate channels (length l) e in
        let f = wav_file rate channels l in
        record { file = f; read = tells f rate channels (of_file rate channels l r); samples = samples_back rate channels l r }

-- ---- a promise leaves nothing free

same_error : (e f : PcmError) → ◌≡◌ {A = Result (Unit {0}) PcmError} (Err e) (Err f) → e ≡ f
same_error e f p = cc

pub read_exact : (file : List ℕ) (a b : Result WavFormat PcmError) → ReadPromise file a → ReadPromise file b → a ≡ b
read_exact file (Ok f) b p q = let t = answered_taken file f p in p.told t ∙ sym (q.told t)
read_exact file (Err e) (Ok g) p q = let t = answered_taken file g q in p.told t ∙ sym (q.told t)
read_exact file (Err e) (Err f) p q = ap Err (same_error e f (decision_exact (Err e) (Err f) (p.decided ∙ sym q.decided)))

pub write_exact : (rate : PcmRate) (channels : ℕ) (l out o o' : List ℕ) (a b : Result (Unit {0}) PcmError)
    → WritePromise rate channels l out o a → WritePromise rate channels l out o' b → (a ≡ b) × (o ≡ o')
write_exact rate channels l out o o' a b p q = (decision_exact a b (p.decided ∙ sym q.decided), p.written ∙ sym q.written)
