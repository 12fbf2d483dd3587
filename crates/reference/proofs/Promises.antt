-- A promise leaves nothing free: two answers to one call are the same, and so is what they leave in each lent list.
use Rattle.std.proofs.Common.{◌≡◌, refl, ap, sym, ◌∙◌, Result, Ok, Err, List, Bool, true, false, cond, ℕ, arith, eqb, ℤ, get_or, Float}
use lib.Ieee.{nan}
use Rattle.reference.specs.Frames.{Run}
use Rattle.reference.specs.Refusals.{Datum, number, rate, cutoff, decibels, Decision, accepted, refused, error_decision, decision, is_accepted, Place}
use Rattle.reference.specs.Promises.{by_decision, Converted, stats_told, GainPromise, OpeningPromise, Answered, SamplesPromise, BytesPromise}
use Rattle.reference.specs.declared.PcmRate.{PcmRate}
use Rattle.reference.specs.declared.PcmRate.TheVariants.{Hz88200}
use Rattle.reference.specs.declared.Cutoff.{Cutoff}
use Rattle.reference.specs.declared.Cutoff.TheVariants.{Wide}
use Rattle.reference.specs.declared.Settings.{Settings}
use Rattle.reference.specs.declared.Converter.{Converter}
use Rattle.reference.specs.declared.Limit.{Limit}
use Rattle.reference.specs.declared.PcmError.{PcmError}
use Rattle.reference.specs.declared.PcmError.TheVariants as error
use Rattle.reference.specs.declared.Gain.{Gain}
use Rattle.reference.specs.declared.Length.{Length}
use Rattle.reference.specs.declared.Length.TheVariants.{WholeFrames, OneFrame}
use Rattle.reference.proofs.Refusals.{error_refuses}

-- ---- a decision at exit

pub accepted_is : (d : Decision) → is_accepted d ≡ true → d ≡ accepted
unfolding is_accepted
accepted_is accepted e = refl
accepted_is (refused n c) e = let z : ◌≡◌ {A = ℕ} 0 1 = cc in absurd (omega arith)

pub exit_accepted : {A : Type 0} (d : Decision) (new old : A) → d ≡ accepted → by_decision d new old ≡ new
unfolding by_decision
exit_accepted d new old e = rw e

pub exit_refused : {A : Type 0} (d : Decision) (new old : A) → is_accepted d ≡ false → by_decision d new old ≡ old
unfolding by_decision is_accepted
exit_refused accepted new old e = let z : ◌≡◌ {A = ℕ} 0 1 = cc in absurd (omega arith)
exit_refused (refused n c) new old e = refl

-- ---- number and data tell the enum's case

n_of : Datum → ℕ
n_of (number n) = n
n_of (rate r) = 0
n_of (cutoff c) = 0
n_of (decibels d) = 0

rate_of : Datum → PcmRate
rate_of (number n) = Hz88200
rate_of (rate r) = r
rate_of (cutoff c) = Hz88200
rate_of (decibels d) = Hz88200

cutoff_of : Datum → Cutoff
cutoff_of (number n) = Wide
cutoff_of (rate r) = Wide
cutoff_of (cutoff c) = c
cutoff_of (decibels d) = Wide

length_of : Datum → Length
length_of (number n) = cond (eqb n 1) OneFrame WholeFrames
length_of (rate r) = WholeFrames
length_of (cutoff c) = WholeFrames
length_of (decibels d) = WholeFrames

db_of : Datum → Float
db_of (number n) = nan
db_of (rate r) = nan
db_of (cutoff c) = nan
db_of (decibels d) = d

case_of : ℕ → Datum → Datum → PcmError
case_of n a b =
    cond (eqb n 1) (error.Channels (n_of a))
    (cond (eqb n 2) (error.Unsupported (rate_of a) (cutoff_of b))
    (cond (eqb n 3) (error.Gain (db_of a))
    (cond (eqb n 4) (error.InputLength (n_of a) (length_of b))
    (cond (eqb n 5) (error.Frames (n_of a))
    (cond (eqb n 6) (error.OutputLength (n_of a) (n_of b))
    (cond (eqb n 7) (error.OutputBytes (n_of a) (n_of b))
    (cond (eqb n 8) (error.FrameCounts (n_of a) (n_of b))
    (cond (eqb n 9) error.NotDsf
    (cond (eqb n 10) error.DsfFormat
    (cond (eqb n 11) error.DsfLength
    (cond (eqb n 12) error.NotWav
    (cond (eqb n 13) (error.Before (n_of a))
    (cond (eqb n 14) (error.After (n_of a))
    (cond (eqb n 16) error.Desk
    (cond (eqb n 17) error.Taps
    (cond (eqb n 18) error.TapSums
    (cond (eqb n 20) error.Sheet
    (cond (eqb n 15) error.Stored error.Schedule))))))))))))))))))

error_of : Decision → PcmError
error_of accepted = error.Frames 0
error_of (refused n d) = case_of n (get_or d 0 (number 0)) (get_or d 1 (number 0))

error_back : (e : PcmError) → error_of (error_decision e) ≡ e
unfolding error_of case_of n_of rate_of cutoff_of length_of db_of
error_back (error.Channels n) = refl
error_back (error.Unsupported r c) = refl
error_back (error.Gain d) = refl
error_back (error.InputLength n WholeFrames) = refl
error_back (error.InputLength n OneFrame) = refl
error_back (error.Frames n) = refl
error_back (error.OutputLength n k) = refl
error_back (error.OutputBytes n k) = refl
error_back (error.FrameCounts n k) = refl
error_back error.NotDsf = refl
error_back error.DsfFormat = refl
error_back error.DsfLength = refl
error_back error.NotWav = refl
error_back error.Schedule = refl
error_back (error.Before n) = refl
error_back (error.After n) = refl
error_back error.Desk = refl
error_back error.Taps = refl
error_back error.TapSums = refl
error_back error.Sheet = refl
error_back error.Stored = refl

error_exact : (a b : PcmError) → error_decision a ≡ error_decision b → a ≡ b
error_exact a b e = sym (error_back a) ∙ ap error_of e ∙ error_back b

-- a refusal is no acceptance
pub apart : {A : Type 0} (e : PcmError) → error_decision e ≡ accepted → A
unfolding is_accepted
apart e p =
    let q : false ≡ true = sym (error_refuses e) ∙ ap is_accepted p in
    let z : ◌≡◌ {A = ℕ} 0 1 = cc in absurd (omega arith)

-- an answer that brings nothing is its decision
pub decision_exact : (a b : Result (Unit {0}) PcmError) → decision a ≡ decision b → a ≡ b
decision_exact (Ok x) (Ok y) p = refl
decision_exact (Ok x) (Err e) p = apart e (sym p)
decision_exact (Err e) (Ok y) p = apart e p
decision_exact (Err e) (Err f) p = ap Err (error_exact e f p)

-- an answer that an acceptance gives a value of its own
made_exact : {A : Type 0} (d : Decision) (v : A) (a b : Result A PcmError) → decision a ≡ d → decision b ≡ d
    → (d ≡ accepted → a ≡ Ok v) → (d ≡ accepted → b ≡ Ok v) → a ≡ b
made_exact d v (Ok x) b p q f g = f (sym p) ∙ sym (g (sym p))
made_exact d v (Err e) (Ok y) p q f g = apart e (p ∙ sym q)
made_exact d v (Err e) (Err e') p q f g = ap Err (error_exact e e' (p ∙ sym q))

-- ---- each promise

pub gain_exact : (db : Float) (a b : Result Gain PcmError) → GainPromise db a → GainPromise db b → a ≡ b
gain_exact db a b p q = made_exact _ _ a b p.decided q.decided p.made q.made

pub opening_exact : (settings : Settings) (a b : Result Converter PcmError) → OpeningPromise settings a → OpeningPromise settings b → a ≡ b
opening_exact settings a b p q = made_exact _ _ a b p.decided q.decided p.converter q.converter

pub answers_exact : (a b : Converted) → decision a ≡ decision b → stats_told a ≡ stats_told b → a ≡ b
unfolding stats_told
answers_exact (Ok x) (Ok y) p q = ap Ok q
answers_exact (Ok x) (Err e) p q = apart e (sym p)
answers_exact (Err e) (Ok y) p q = apart e p
answers_exact (Err e) (Err f) p q = ap Err (error_exact e f p)

answered_exact : (places : List Place) (conv : Converter) (r : Run) (a b : Converted) → Answered places conv r a → Answered places conv r b → a ≡ b
answered_exact places conv r a b p q = answers_exact a b (p.decided ∙ sym q.decided) (p.counted ∙ sym q.counted)

pub samples_exact : (places : List Place) (conv : Converter) (r : Run) (out o o' : List ℤ) (a b : Converted)
    → SamplesPromise places conv r out o a → SamplesPromise places conv r out o' b → (a ≡ b) × (o ≡ o')
samples_exact places conv r out o o' a b p q = (answered_exact places conv r a b p.answered q.answered, p.written ∙ sym q.written)

pub convert_exact : (whose : Limit) (conv : Converter) (r : Run) (lent : Bool) (out counts o o' c c' : List ℕ) (a b : Converted)
    → BytesPromise whose conv r lent out counts o c a → BytesPromise whose conv r lent out counts o' c' b → (a ≡ b) × (o ≡ o') × (c ≡ c')
convert_exact whose conv r lent out counts o o' c c' a b p q =
    (answered_exact _ conv r a b p.answered q.answered, p.written ∙ sym q.written, p.per_frame ∙ sym q.per_frame)
