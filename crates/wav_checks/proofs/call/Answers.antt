-- `call`: one list of places after the other.
use Rattle.std.proofs.lemmas.Result.{err_from_is_err_and}
use Rattle.refusals.proofs.Steps.{stops, goes_on, wrong_bytes, right_length}
use Rattle.reference.specs.Output.{all_samples, channel_samples}
use Rattle.wav_checks.specs.Places.{run_bytes, wav_lengths, wav_places}
use Rattle.wav_checks.proofs.call.Goals as goal

pub returns-in_err-input : goal.returns-in_err-input
unfolding wav_places
returns-in_err-input c =
    let p = err_from_is_err_and c.from_residual-in_err-input.result c.from_residual-in_err-input.ensures.1 in
    rw (p.1, p.2) (goes_on _ _ c.in_ok-held.ensures (stops _ _ _ c.in_err-input.ensures))

pub returns-then-out-expected : goal.returns-then-out-expected
unfolding wav_places wav_lengths run_bytes all_samples channel_samples
returns-then-out-expected c =
    let n = c.all_samples-data.ensures.0 in
    goes_on _ _ c.in_ok-held.ensures (goes_on _ _ c.in_ok-input.ensures (rw n (wrong_bytes _ _ _ (rw n at c.if-out-expected.true))))

pub returns-in_err-counts_length : goal.returns-in_err-counts_length
unfolding wav_places wav_lengths run_bytes all_samples channel_samples
returns-in_err-counts_length c =
    let p = err_from_is_err_and c.from_residual-in_err-counts_length.result c.from_residual-in_err-counts_length.ensures.1 in
    let long = rw c.all_samples-data.ensures.0 at c.if-out-expected.false in
    rw (p.1, p.2) (goes_on _ _ c.in_ok-held.ensures (goes_on _ _ c.in_ok-input.ensures (right_length _ _ _ 7 long (stops _ _ _ c.in_err-counts_length.ensures))))

pub returns : goal.returns
unfolding wav_places wav_lengths run_bytes all_samples channel_samples
returns c =
    let n = c.all_samples-data.ensures.0 in
    let later = goes_on _ _ c.in_ok-counts_length.ensures (rw n at c.told.ensures) in
    goes_on _ _ c.in_ok-held.ensures (goes_on _ _ c.in_ok-input.ensures (right_length _ _ _ 7 (rw n at c.if-out-expected.false) later))
