-- The album's bytes: by position, and in its frames.
use Rattle.std.proofs.Common.{◌≡◌, refl, sym, ap, subst, ◌∙◌, cond, ⊎_elim, List, [], ◌∷◌, ◌++◌, ℕ, ◌+◌, ◌-◌, ◌*◌, ◌≤◌, ◌<◌, zero-add, add-mul}
use Rattle.std.proofs.Common.{mul-le-mul_right, arith, ltb, length, get_or, length-append, get_or-append-add, lt-ltb, le-ltb}
use mathlib.Core.List.{flat_map}
use lib.ListN.{get_or-append}
use Rattle.numbers.specs.Lists.{Each}
use Rattle.numbers.proofs.Lists.{length_tabulate, get_d_tabulate, below_or}
use Rattle.reference.specs.Frames.{idle}
use Rattle.dsf.specs.Dsf.{channels, bits_per_sample, sample_count, turn_byte}
use Rattle.dsf_columns.proofs.Blocks.{quotient, remainder}
use Rattle.tracks.specs.Tracks.{Track, heads, head_length, all_length, track_bytes, tracks_bytes}
use Rattle.tracks.specs.inner.Tracks.{track_byte, tracks_byte}

-- tracks of n channels
abbrev pub Alike : ℕ → List Track → Type 0
Alike n ts = Each (λ t. channels t.head.bytes ≡ n) ts

pub length_track : (t : Track) → length (track_bytes t) ≡ head_length t.head * channels t.head.bytes
unfolding track_bytes
length_track t = length_tabulate _ _ _

pub length_tracks : (n : ℕ) (ts : List Track) → Alike n ts → length (tracks_bytes ts) ≡ all_length (heads ts) * n
unfolding tracks_bytes all_length flat_map
length_tracks n [] e = omega arith
length_tracks n (t ∷ ts) e =
    length-append (track_bytes t) (tracks_bytes ts) ∙ rw (length_track t, e.0, length_tracks n ts e.1) (sym (add-mul (head_length t.head) (all_length (heads ts)) n))

-- byte p of channel c of a track
track_at : (t : Track) (c p : ℕ) → c < channels t.head.bytes → p < head_length t.head → get_or (track_bytes t) (p * channels t.head.bytes + c) idle ≡ track_byte t c p
unfolding track_bytes turn_byte
track_at t c p h l =
    let n = channels t.head.bytes in
    get_d_tabulate (turn_byte t.read n (bits_per_sample t.head.bytes) (sample_count t.head.bytes)) 0 (head_length t.head * n) (p * n + c) idle (omega (arith, mul-le-mul_right n l))
    ∙ rw (zero-add (p * n + c), quotient p n c h, remainder p n c h) refl

-- of the tracks end to end
pub bytes_by_position : (n : ℕ) (ts : List Track) → Alike n ts → (c p : ℕ) → c < n → get_or (tracks_bytes ts) (p * n + c) idle ≡ tracks_byte ts c p
unfolding tracks_bytes tracks_byte flat_map
bytes_by_position n [] e c p h = refl
bytes_by_position n (t ∷ ts) e c p h = ⊎_elim inside (behind (bytes_by_position n ts e.1 c (p - head_length t.head) h)) (below_or p (head_length t.head))
  where
    same : length (track_bytes t) ≡ head_length t.head * n
    same = length_track t ∙ rw e.0 refl

    inside : p < head_length t.head → get_or (track_bytes t ++ tracks_bytes ts) (p * n + c) idle ≡ cond (ltb p (head_length t.head)) (track_byte t c p) (tracks_byte ts c (p - head_length t.head))
    inside l =
        get_or-append (track_bytes t) (tracks_bytes ts) idle (p * n + c) (omega (arith, same, mul-le-mul_right n l))
        ∙ rw (lt-ltb p (head_length t.head) l) (subst (λ (m : ℕ). c < m → get_or (track_bytes t) (p * m + c) idle ≡ track_byte t c p) e.0 (λ g. track_at t c p g l) h)

    behind : get_or (tracks_bytes ts) ((p - head_length t.head) * n + c) idle ≡ tracks_byte ts c (p - head_length t.head)
        → head_length t.head ≤ p → get_or (track_bytes t ++ tracks_bytes ts) (p * n + c) idle ≡ cond (ltb p (head_length t.head)) (track_byte t c p) (tracks_byte ts c (p - head_length t.head))
    behind later l =
        let q = p - head_length t.head in
        let whole : head_length t.head + q ≡ p = omega arith in
        let at : p * n + c ≡ length (track_bytes t) + (q * n + c) = omega (arith, same, sym (add-mul (head_length t.head) q n) ∙ ap (λ (x : ℕ). x * n) whole) in
        rw (at, get_or-append-add (track_bytes t) (tracks_bytes ts) (q * n + c) idle, le-ltb p (head_length t.head) l) later
