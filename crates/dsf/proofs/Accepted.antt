-- An accepted file as facts, in both directions.
use Rattle.std.proofs.Common.{◌≡◌, ap, List, [], ◌∷◌, Bool, true, false, cond, not, ◌&&◌, ℕ, ◌+◌, ◌%◌, ◌≤◌, T, eqb, leb, leb→le, le→leb, eqb→eq, arith}
use Rattle.std.proofs.Common.{ltb-false, length}
use lib.Dec.{eqb_refl}
use Rattle.reference.specs.Refusals.{accepted, refused, place, decide, is_accepted}
use Rattle.reference.proofs.Refusals.{pass}
use Rattle.dsf.specs.Dsf.{channels, layout, frequency, all, fits, stated_length, sample_count, data_size, needed, places_at, file_places, accepts}
use Rattle.dsf.specs.Reading.{header_places}
use Rattle.dsf.proofs.Alike.{T_is, T_of, both, left, right}
use Rattle.dsf.proofs.Tests.{channels_range}

-- of a file of n bytes
pub record Sound (file : List ℕ) (n : ℕ) : Type 0 where
  pub long : 92 ≤ n
  pub as_laid_out : T (all (fits file) layout)
  pub at_frequency : T (fits file frequency)
  pub whole : sample_count file % 8 ≡ 0
  pub stated : stated_length file ≡ n
  pub sized : data_size file ≡ 12 + needed file
  pub ends : 80 + data_size file ≤ n

pub eq→eqb : (m n : ℕ) → m ≡ n → T (eqb m n)
eq→eqb m n e = rw e (eqb_refl n)

module _ (a b c d e f g : Bool) where
  abbrev tests : Bool
  tests = is_accepted (decide (place (not (a && b)) 9 [] ∷ place (not (c && d)) 10 [] ∷ place (not (e && (f && g))) 11 [] ∷ []))

  taken : T tests → T (a && b) × T (c && d) × T (e && (f && g))
  unfolding is_accepted decide
  taken h = go (a && b) (c && d) (e && (f && g)) h
    where
      go : (x y z : Bool) → T (is_accepted (cond (not x) (refused 9 []) (cond (not y) (refused 10 []) (cond (not z) (refused 11 []) accepted)))) → T x × T y × T z
      go true true true h = (tt, tt, tt)
      go true true false h = absurd h
      go true false z h = absurd h
      go false y z h = absurd h

  passed : T (a && b) → T (c && d) → T (e && (f && g)) → T tests
  unfolding is_accepted decide
  passed = go (a && b) (c && d) (e && (f && g))
    where
      go : (x y z : Bool) → T x → T y → T z → T (is_accepted (cond (not x) (refused 9 []) (cond (not y) (refused 10 []) (cond (not z) (refused 11 []) accepted))))
      go true true true h k l = tt
      go true true false h k l = absurd l
      go true false z h k l = absurd k
      go false y z h k l = absurd h

  pub apart : T tests → T a × T b × T c × T d × T e × T f × T g
  apart h =
      let t = taken h in
      let w = right e (f && g) t.2 in
      (left a b t.0, right a b t.0, left c d t.1, right c d t.1, left e (f && g) t.2, left f g w, right f g w)

  pub together : T a → T b → T c → T d → T e → T f → T g → T tests
  together ha hb hc hd he hf hg = passed (both a b ha hb) (both c d hc hd) (both e (f && g) he (both f g hf hg))

module _ (file : List ℕ) (n : ℕ) where
  pub sound_at : T (is_accepted (decide (places_at file n))) → Sound file n
  unfolding places_at
  sound_at h =
      let t = apart (leb 92 n) (all (fits file) layout) (fits file frequency) (eqb (sample_count file % 8) 0)
      (eqb (stated_length file) n) (eqb (data_size file) (12 + needed file)) (leb (80 + data_size file) n) h in
      record {
        long = leb→le _ _ t.0;
        as_laid_out = t.1;
        at_frequency = t.2;
        whole = eqb→eq _ _ t.3;
        stated = eqb→eq _ _ t.4;
        sized = eqb→eq _ _ t.5;
        ends = leb→le _ _ t.6;
      }

  pub is_sound_at : Sound file n → T (is_accepted (decide (places_at file n)))
  unfolding places_at
  is_sound_at s =
      together (leb 92 n) (all (fits file) layout) (fits file frequency) (eqb (sample_count file % 8) 0) (eqb (stated_length file) n)
      (eqb (data_size file) (12 + needed file)) (leb (80 + data_size file) n)
      (le→leb _ _ s.long) s.as_laid_out s.at_frequency (eq→eqb _ _ s.whole) (eq→eqb _ _ s.stated) (eq→eqb _ _ s.sized) (le→leb _ _ s.ends)

-- a whole file
pub sound : (file : List ℕ) → T (accepts file) → Sound file (length file)
unfolding accepts file_places
sound file h = sound_at file (length file) h

pub is_sound : (file : List ℕ) → Sound file (length file) → T (accepts file)
unfolding accepts file_places
is_sound file s = is_sound_at file (length file) s

-- a head that is accepted
module _ (head : List ℕ) (n : ℕ) (e : decide (header_places head n) ≡ accepted) where
  pub head_sound : Sound head n
  unfolding header_places is_accepted
  head_sound = sound_at head n (T_of (ap is_accepted (pass _ _ e).1))

  pub head_channels : (1 ≤ channels head) × (channels head ≤ 6)
  unfolding header_places
  head_channels = channels_range head (T_is head_sound.as_laid_out) (omega (arith, ltb-false (length head) 92 (pass _ _ e).0))
