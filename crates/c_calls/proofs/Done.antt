-- What a call has done, by what the API's call gave.
use Rattle.std.proofs.Common.{◌≡◌, refl, sym, ap, subst, ◌∙◌, Result, Ok, Err, List, [], Bool, false, ℕ, ℤ, Float}
use Rattle.reference.specs.Frames.{Run}
use Rattle.reference.specs.Scaling.{db_to_linear}
use Rattle.reference.specs.Settings.{converter_of}
use Rattle.reference.specs.Output.{stats}
use Rattle.reference.specs.Refusals.{rack, desk, Decision, accepted, refused, decide, decision, is_accepted, if_present, gain_places, opening_places, convert_places, byte_lengths}
use Rattle.reference.specs.Promises.{by_decision, Converted, GainPromise, OpeningPromise, SamplesPromise, BytesPromise, if_lent}
use Rattle.reference.specs.Changes.{Change, change_places, changed, ChangePromise}
use Rattle.reference.specs.declared.Gain.{Gain}
use Rattle.reference.specs.declared.Settings.{Settings}
use Rattle.reference.specs.declared.Converter.{Converter}
use Rattle.reference.specs.declared.PcmError.{PcmError}
use Rattle.reference.proofs.Promises.{exit_accepted, exit_refused}
use Rattle.reference.proofs.Refusals.{error_refuses}
use Rattle.wav_checks.specs.Places.{wav_places, wav_lengths}
use Rattle.wav.specs.Promises.{WavPromise}
use Rattle.codes.specs.Told.{if_ok, ToldDecibels, ToldWhole}
use Rattle.codes.proofs.Told.{accepted_as}
use Rattle.c_converter.specs.Blocks.{CConverter, settings_of, held_converter, with_stored, with_changed, gain_floats}
use Rattle.c_stats.specs.Stats.{stat_numbers}
use Rattle.c_stats.specs.Conversions.{Results}
use Rattle.c_stats.proofs.Conversions.{conversion_done}
use Rattle.c_calls.specs.Calls.{GainCall, OpenDone, CWanted, change_of, new_converter, ChangeDone, samples_places, SamplesDone, bytes_places, bytes_written, BytesDone}
use Rattle.c_calls.specs.inner.Made.{BytesMade}
use Rattle.c_calls.specs.declared.conversions.ToSamples.{ToSamples}
use Rattle.c_calls.specs.declared.conversions.ToBytes.{ToBytes}
use Rattle.c_calls.specs.declared.conversions.ToBytes.TheVariants as bytes_of

pub gain_done : {db : Float} {made : Result Gain PcmError} {gain gain' decibels' : List Float} {answer : ℕ} → GainPromise db made → ToldDecibels (decision made) answer decibels'
    → gain' ≡ if_ok gain_floats made gain → GainCall db gain gain' decibels' answer
gain_done {db} {made} {gain} {gain'} {decibels'} {answer} p t w =
    record {
      told = subst (λ d. ToldDecibels d answer decibels') p.decided t;
      written = w ∙ accepted_as (decide (gain_places db)) gain_floats made (record { db = db; linear = db_to_linear db }) gain p.decided p.made;
    }

pub open_done : (b : CConverter) (s : Settings) (made : Result Converter PcmError) {numbers' data' : List ℕ} {decibels' : List Float} {answer : ℕ} → settings_of b ≡ s → OpeningPromise s made
    → ToldWhole (decision made) answer data' decibels' → numbers' ≡ if_ok (λ conv. with_stored conv b.numbers) made b.numbers
    → OpenDone (decide (opening_places (settings_of b))) b numbers' data' decibels' answer
open_done b s made {numbers'} {data'} {decibels'} {answer} e q t w =
    let p = subst (λ x. OpeningPromise x made) (sym e) q in
    record {
      told = subst (λ d. ToldWhole d answer data' decibels') p.decided t;
      written = w ∙ accepted_as _ (λ conv. with_stored conv b.numbers) made (converter_of (settings_of b)) b.numbers p.decided p.converter;
    }

-- ---- a change

-- what is written of the converter held then, which is the new one where the change was accepted
held_as : {B : Type 0} (d : Decision) (f : Converter → B) (made : Result (Unit {0}) PcmError) (held new conv : Converter) (old : B) → decision made ≡ d → held ≡ by_decision d new conv
    → if_ok (λ u. f held) made old ≡ by_decision d (f new) old
held_as d f (Ok u) held new conv old e h = ap f (h ∙ exit_accepted d new conv (sym e)) ∙ sym (exit_accepted d (f new) old (sym e))
held_as d f (Err x) held new conv old e h = sym (exit_refused d (f new) old (ap is_accepted (sym e) ∙ error_refuses x))

pub change_done : (b : CConverter) (w : CWanted) (conv held : Converter) (v : Change) (made : Result (Unit {0}) PcmError) {numbers' : List ℕ} {gain' : List Float} {data' : List ℕ}
    {decibels' : List Float} {answer : ℕ} → held_converter b ≡ conv → change_of w ≡ v → ChangePromise conv v held made → ToldWhole (decision made) answer data' decibels'
    → numbers' ≡ if_ok (λ u. with_changed held b.numbers) made b.numbers → gain' ≡ if_ok (λ u. gain_floats held.gain) made b.gain
    → ChangeDone (decide (change_places (held_converter b) (change_of w))) b (new_converter b w) numbers' gain' data' decibels' answer
unfolding changed
change_done b w conv held v made {data' = data'} {decibels'} {answer} e h q t n g =
    let p = subst (λ x. ChangePromise x (change_of w) held made) (sym e) (subst (λ y. ChangePromise conv y held made) (sym h) q) in
    let is : held ≡ by_decision (decide (change_places (held_converter b) (change_of w))) (new_converter b w) (held_converter b) = p.converter in
    record {
      told = subst (λ d. ToldWhole d answer data' decibels') p.decided t;
      written = n ∙ held_as _ (λ x. with_changed x b.numbers) made held (new_converter b w) (held_converter b) b.numbers p.decided is;
      amplified = g ∙ held_as _ (λ x. gain_floats x.gain) made held (new_converter b w) (held_converter b) b.gain p.decided is;
    }

-- ---- conversions

-- of what is asked: the converter and the run that were read
module _ {c conv : Converter} (e : c ≡ conv) {q r : Run} (h : r ≡ q) (made : Converted) (old new : Results) {answer : ℕ}
    (t : ToldWhole (decision made) answer new.«data» new.decibels) (w : new.stats ≡ if_ok stat_numbers made old.stats) where
  pub samples_done : (kind : ToSamples) {out out' : List ℤ} → SamplesPromise (samples_places kind conv r out) conv r out out' made
      → SamplesDone (decide (samples_places kind c q out)) c q out out' old new answer
  samples_done kind {out} {out'} p =
      let x = subst (λ v. SamplesPromise (samples_places kind v q out) v q out out' made) (sym e) (subst (λ s. SamplesPromise (samples_places kind conv s out) conv s out out' made) h p) in
      record { done = conversion_done _ c q made x.answered old new t w; written = x.written }

  pub bytes_done : (kind : ToBytes) {lent : Bool} {out counts out' counts' : List ℕ} → BytesMade kind conv r lent out counts out' counts' made
      → BytesDone (decide (bytes_places kind c q out lent counts)) kind c q lent out counts out' counts' old new answer
  bytes_done kind {lent} {out} {counts} {out'} {counts'} p =
      let x = subst (λ v. BytesMade kind v q lent out counts out' counts' made) (sym e) (subst (λ s. BytesMade kind conv s lent out counts out' counts' made) h p) in
      record { done = conversion_done _ c q made x.answered old new t w; written = x.written; per_frame = x.per_frame }

-- ---- to bytes

module _ {conv : Converter} {r : Run} {lent : Bool} {out counts out' counts' : List ℕ} {answer : Converted} where
  pub rack_made : BytesPromise rack conv r lent out counts out' counts' answer → BytesMade bytes_of.Rack conv r lent out counts out' counts' answer
  unfolding bytes_places bytes_written
  rack_made p = record { answered = p.answered; written = p.written; per_frame = p.per_frame }

  pub desk_made : BytesPromise desk conv r lent out counts out' counts' answer → BytesMade bytes_of.Desk conv r lent out counts out' counts' answer
  unfolding bytes_places bytes_written
  desk_made p = record { answered = p.answered; written = p.written; per_frame = p.per_frame }

  pub wav_made : WavPromise conv r lent out counts out' counts' answer → BytesMade bytes_of.Wav conv r lent out counts out' counts' answer
  unfolding bytes_places bytes_written
  wav_made p = record { answered = p.answered; written = p.written; per_frame = p.per_frame }

kept : {A : Type 0} (d : Decision) (a : A) → a ≡ by_decision d a a
unfolding by_decision
kept accepted a = refl
kept (refused n x) a = refl

-- a list for counts that is not there keeps its contents, whatever they are
pub any_unlent : (kind : ToBytes) {conv : Converter} {r : Run} {out out' : List ℕ} {answer : Converted} (counts : List ℕ) → BytesMade kind conv r false out [] out' [] answer
    → BytesMade kind conv r false out counts out' counts answer
unfolding bytes_places convert_places byte_lengths wav_places wav_lengths if_present if_lent
any_unlent bytes_of.Rack counts p = record { answered = p.answered; written = p.written; per_frame = kept _ counts }
any_unlent bytes_of.Desk counts p = record { answered = p.answered; written = p.written; per_frame = kept _ counts }
any_unlent bytes_of.Wav counts p = record { answered = p.answered; written = p.written; per_frame = kept _ counts }
