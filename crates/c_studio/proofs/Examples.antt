-- What stands before the samples, out of its two numbers: without an end nothing is in progress, whatever its length.
use Rattle.std.proofs.Common.{◌≡◌, refl, ℕ}
use Rattle.overs.specs.Overs.{none, normal}
use Rattle.c_studio.specs.Progress.{progress_of}

pub no_end : (length : ℕ) → normal (progress_of 0 length) ≡ none
unfolding normal progress_of
no_end length = refl
