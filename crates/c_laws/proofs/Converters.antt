-- What is written of a converter, read again.
use Rattle.std.proofs.Common.{◌≡◌, refl, arith, true, List, [], ◌∷◌, ℕ, length}
use Rattle.reference.specs.Codes.{hertz, cutoff_number}
use Rattle.reference.specs.Settings.{filter_of, converter_of}
use Rattle.reference.specs.Changes.{with_wanted}
use Rattle.reference.specs.declared.PcmRate.{PcmRate}
use Rattle.reference.specs.declared.PcmRate.TheVariants.{Hz88200, Hz176400, Hz352800}
use Rattle.reference.specs.declared.Cutoff.{Cutoff}
use Rattle.reference.specs.declared.Cutoff.TheVariants.{Standard, Low, Wide}
use Rattle.reference.proofs.Refusals.{and_right}
use Rattle.codes.specs.Codes.{rate_of, known_rate, cutoff_of, known_cutoff}
use Rattle.c_converter.specs.Blocks.{converter_lists, entry, known_numbers, settings_of, held_converter, with_stored, with_changed, gain_floats}
use Rattle.c_calls.specs.Calls.{new_converter}
use Rattle.c_laws.specs.Converters.{OpenedStands, ChangedStands, Stands}

-- eight numbers
eight : (n : List ℕ) → length n ≡ 8 → n ≡ entry n 0 ∷ entry n 1 ∷ entry n 2 ∷ entry n 3 ∷ entry n 4 ∷ entry n 5 ∷ entry n 6 ∷ entry n 7 ∷ []
eight [] e = absurd (omega arith)
eight (a ∷ []) e = absurd (omega arith)
eight (a ∷ b ∷ []) e = absurd (omega arith)
eight (a ∷ b ∷ c ∷ []) e = absurd (omega arith)
eight (a ∷ b ∷ c ∷ d ∷ []) e = absurd (omega arith)
eight (a ∷ b ∷ c ∷ d ∷ f ∷ []) e = absurd (omega arith)
eight (a ∷ b ∷ c ∷ d ∷ f ∷ g ∷ []) e = absurd (omega arith)
eight (a ∷ b ∷ c ∷ d ∷ f ∷ g ∷ h ∷ []) e = absurd (omega arith)
eight (a ∷ b ∷ c ∷ d ∷ f ∷ g ∷ h ∷ i ∷ []) e = refl
eight (a ∷ b ∷ c ∷ d ∷ f ∷ g ∷ h ∷ i ∷ j ∷ l) e = absurd (omega arith)

rate_back : (r : PcmRate) → rate_of (hertz r) ≡ r
unfolding rate_of
rate_back Hz88200 = refl
rate_back Hz176400 = refl
rate_back Hz352800 = refl

cutoff_back : (c : Cutoff) → cutoff_of (cutoff_number c) ≡ c
unfolding cutoff_of
cutoff_back Standard = refl
cutoff_back Low = refl
cutoff_back Wide = refl

rate_known : (r : PcmRate) → known_rate (hertz r) ≡ true
unfolding rate_of
rate_known Hz88200 = refl
rate_known Hz176400 = refl
rate_known Hz352800 = refl

cutoff_known : (c : Cutoff) → known_cutoff (cutoff_number c) ≡ true
unfolding cutoff_of
cutoff_known Standard = refl
cutoff_known Low = refl
cutoff_known Wide = refl

-- a statement of eight numbers, of a list of eight
of_eight : (P : List ℕ → Type 0) → ((a b c d e f g h : ℕ) → P (a ∷ b ∷ c ∷ d ∷ e ∷ f ∷ g ∷ h ∷ [])) → (n : List ℕ) → length n ≡ 8 → P n
of_eight P k n e = rw (eight n e) (k (entry n 0) (entry n 1) (entry n 2) (entry n 3) (entry n 4) (entry n 5) (entry n 6) (entry n 7))

pub opened_stands : OpenedStands
unfolding held_converter settings_of converter_of
opened_stands b e k =
    of_eight
    (λ n. known_numbers n ≡ true → let old = converter_lists n b.gain b.taps in
    let new = converter_lists (with_stored (converter_of (settings_of old)) n) b.gain b.taps in
    Stands new (held_converter new ≡ converter_of (settings_of old)))
    (λ a b c d e f g h k. record { known = k; is = refl }) b.numbers e k

pub changed_stands : ChangedStands
unfolding held_converter settings_of converter_of filter_of with_wanted
changed_stands b w e k =
    of_eight
    (λ n. known_numbers n ≡ true → let old = converter_lists n b.gain b.taps in
    let conv = new_converter old w in
    let new = converter_lists (with_changed conv n) (gain_floats conv.gain) b.taps in
    Stands new (held_converter new ≡ conv))
    (λ a c d f g h i j k.
    record {
      known = rw (rate_known (rate_of w.rate), cutoff_known (cutoff_of w.cutoff)) (and_right (known_cutoff c) _ (and_right (known_rate a) _ k));
      is = rw (rate_back (rate_of w.rate), cutoff_back (cutoff_of w.cutoff)) refl;
    }) b.numbers e k
