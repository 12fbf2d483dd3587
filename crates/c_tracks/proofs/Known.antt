-- What is known.
use Rattle.std.proofs.Common.{◌≡◌, Option, None, Bool, true, false, ◌&&◌, List, ℕ, length, leb, refl, leb-true, eqb-true}
use Rattle.codes.specs.inner.Codes.{if_known}
use Rattle.reference.proofs.Refusals.{and_left, and_right}
use Rattle.tracks_open.specs.inner.Open.{TracksArgs}
use Rattle.c_tracks.specs.Asked.{Asked, lists_match, asked_known}

pub unfit : {A : Type 0} (a b : Bool) (x : A) → a ≡ false → None ≡ if_known (a && b) x
unfolding if_known
unfit a b x h = rw h refl

pub as_known : {A : Type 0} (a b : Bool) (x : A) {o : Option A} → a ≡ true → o ≡ if_known b x → o ≡ if_known (a && b) x
unfolding if_known
as_known a b x h e = rw h e

pub fits : (heads lengths : List ℕ) → lists_match heads lengths ≡ true → TracksArgs heads lengths
fits heads lengths h =
    let some = and_left (leb 1 (length lengths)) _ h in
    let more = and_right (leb 1 (length lengths)) _ h in
    record {
      sized = eqb-true _ _ (and_right (leb (length lengths) 99) _ more);
      some = leb-true _ _ some;
      few = leb-true _ _ (and_left (leb (length lengths) 99) _ more);
    }

pub lists_fit : (a : Asked) → asked_known a ≡ true → TracksArgs a.heads a.lengths
lists_fit a h = fits a.heads a.lengths (and_left (lists_match a.heads a.lengths) _ h)
