-- What a kind holds, and how many channels have loudspeakers.
use Rattle.std.proofs.Common.{◌≡◌, refl, sym, ◌∙◌, Bool, true, false, cond, ◌&&◌, ℕ, ◌≤◌, arith, List, [], ◌∷◌, eqb, leb, length, sum, leb-true, leb-false}
use Rattle.std.proofs.Common.{le-leb, eqb-true}
use borrow.Author.Tests.{lt-leb}
use Rattle.wave_headers.specs.Speakers.{loudspeakers, rising, InMaskOrder}
use Rattle.wave_headers.specs.Headers.{pad, riff_size}
use Rattle.wave_headers.specs.Choice.{most_of_kind, holds, kind_of, few_for, placed, whole_samples, writable}
use Rattle.wave_headers.specs.declared.Format.{Format}
use Rattle.wave_headers.specs.declared.HeaderKind.{HeaderKind}
use Rattle.wave_headers.specs.declared.HeaderKind.TheVariants.{Plain, Extensible, Rf64, Rf64Extensible}

-- ---- the most data

-- the size of n bytes with a pad is told, where n is at most so much
holds_most : (kind : HeaderKind) (n m : ℕ) → (n ≤ m → riff_size kind n ≤ most_of_kind kind) → (riff_size kind n ≤ most_of_kind kind → n ≤ m) → leb n m ≡ holds kind n
unfolding holds
holds_most kind n m f g = go (leb n m) refl
  where
    go : (b : Bool) → leb n m ≡ b → leb n m ≡ leb (riff_size kind n) (most_of_kind kind)
    go true e = e ∙ sym (le-leb _ _ (f (leb-true n m e)))
    go false e = e ∙ sym (lt-leb _ _ (grind (arith, leb-false n m e, g)))

pub plain_most : (n : ℕ) → leb n 4294967258 ≡ holds Plain n
unfolding riff_size pad
plain_most n = holds_most Plain n 4294967258 (λ h. omega arith) (λ h. omega arith)

pub extensible_most : (n : ℕ) → leb n 4294967234 ≡ holds Extensible n
unfolding riff_size pad
extensible_most n = holds_most Extensible n 4294967234 (λ h. omega arith) (λ h. omega arith)

pub long_most : (n : ℕ) → leb n 18446744073709551542 ≡ holds Rf64 n
unfolding riff_size pad
long_most n = holds_most Rf64 n 18446744073709551542 (λ h. omega arith) (λ h. omega arith)

pub long_extensible_most : (n : ℕ) → leb n 18446744073709551518 ≡ holds Rf64Extensible n
unfolding riff_size pad
long_extensible_most n = holds_most Rf64Extensible n 18446744073709551518 (λ h. omega arith) (λ h. omega arith)

pub held_size : (kind : HeaderKind) (n : ℕ) → holds kind n ≡ true → riff_size kind n ≤ most_of_kind kind
unfolding holds
held_size kind n h = leb-true _ _ h

-- ---- channels

abbrev those : Bool → Bool → Bool → Bool → Bool → Bool → Bool → List ℕ
those a b c d e f g =
    cond a (4 ∷ []) (cond b (1 ∷ 2 ∷ []) (cond c (1 ∷ 2 ∷ 4 ∷ []) (cond d (1 ∷ 2 ∷ 16 ∷ 32 ∷ []) (cond e (1 ∷ 2 ∷ 4 ∷ 8 ∷ [])
    (cond f (1 ∷ 2 ∷ 4 ∷ 16 ∷ 32 ∷ []) (cond g (1 ∷ 2 ∷ 4 ∷ 8 ∷ 16 ∷ 32 ∷ []) []))))))

-- at most six, and their mask
pub few_speakers : (type : ℕ) → (length (loudspeakers type) ≤ 6) × (sum (loudspeakers type) ≤ 63)
unfolding loudspeakers
few_speakers t = go (eqb t 1) (eqb t 2) (eqb t 3) (eqb t 4) (eqb t 5) (eqb t 6) (eqb t 7)
  where
    go : (a b c d e f g : Bool) → (length (those a b c d e f g) ≤ 6) × (sum (those a b c d e f g) ≤ 63)
    go true b c d e f g = (omega arith, omega arith)
    go false true c d e f g = (omega arith, omega arith)
    go false false true d e f g = (omega arith, omega arith)
    go false false false true e f g = (omega arith, omega arith)
    go false false false false true f g = (omega arith, omega arith)
    go false false false false false true g = (omega arith, omega arith)
    go false false false false false false true = (omega arith, omega arith)
    go false false false false false false false = (omega arith, omega arith)

-- in the order of their bits
pub in_mask_order : InMaskOrder
unfolding loudspeakers rising
in_mask_order t = go (eqb t 1) (eqb t 2) (eqb t 3) (eqb t 4) (eqb t 5) (eqb t 6) (eqb t 7)
  where
    go : (a b c d e f g : Bool) → rising (those a b c d e f g) ≡ true
    go true b c d e f g = refl
    go false true c d e f g = refl
    go false false true d e f g = refl
    go false false false true e f g = refl
    go false false false false true f g = refl
    go false false false false false true g = refl
    go false false false false false false true = refl
    go false false false false false false false = refl

left : (a b : Bool) → (a && b) ≡ true → a ≡ true
left true b e = refl
left false b e = e

right : (a b : Bool) → (a && b) ≡ true → b ≡ true
right true b e = e
right false true e = refl
right false false e = e

-- of a file that there is
pub writable_placed : (asked : Format) (channels type n : ℕ) → writable asked channels type n ≡ true → placed channels type ≡ true
unfolding writable
writable_placed asked channels type n e = left _ _ e

pub writable_holds : (asked : Format) (channels type n : ℕ) → writable asked channels type n ≡ true → holds (kind_of asked channels n) n ≡ true
unfolding writable
writable_holds asked channels type n e = right (few_for asked channels) _ (right (whole_samples channels n) _ (right (placed channels type) _ e))

pub few_placed : (channels type : ℕ) → placed channels type ≡ true → (1 ≤ channels) × (channels ≤ 6)
unfolding placed
few_placed channels type e = (
  leb-true _ _ (left _ _ e),
  omega (arith, (few_speakers type).0, eqb-true channels (length (loudspeakers type)) (right (leb 1 channels) _ e)),
)
