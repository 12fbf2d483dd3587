-- Laws of `Printed`: a copy, one byte, one text after another, a line, and lines.
use Rattle.std.proofs.Common.{◌≡◌, refl, sym, ap, ◌∙◌, ⊎_elim, List, [], ◌∷◌, ◌++◌, append_assoc, append-nil, ℕ, suc, ◌+◌, ◌≤◌, zero-add, arith, length, take}
use Rattle.std.proofs.Common.{drop, length-append, drop_of_length-le, length-take-le, take_all, take_at, drop_at, drop-drop}
use borrow.Rule.Slice.PartMut.{put_mid}
use Rattle.numbers.specs.Lists.{tabulate}
use Rattle.numbers.proofs.Lists.{below_or}
use Rattle.text.specs.Text.{joined, with_text, Printed, printed}

-- a part of the list written as a text
pub overwritten : (old : List ℕ) (at k : ℕ) {t new : List ℕ} → new ≡ t → k ≡ length t → Printed t old at (put_mid at k old new) (at + length t)
unfolding with_text
overwritten old at k {t} e h = record { written = rw (e, h, drop-drop (length t) at old) refl; after = refl }

pub none_printed : (old : List ℕ) → Printed [] old 0 old 0
unfolding with_text
none_printed old = record { written = refl; after = refl }

-- a text as long as the list
pub filled : {t old new : List ℕ} {n : ℕ} → Printed t old 0 new n → length old ≡ length t → new ≡ t
unfolding with_text
filled {t} {old} p e =
    let none : drop (0 + length t) old ≡ [] = drop_of_length-le old {i = 0 + length t} (omega arith) in
    p.written ∙ rw (none, append-nil)

-- a text past a list's end
beyond : (l : List ℕ) (at : ℕ) (t : List ℕ) → length l ≤ at → with_text l at t ≡ l ++ t
unfolding with_text
beyond l at t h =
    let none : drop (at + length t) l ≡ [] = drop_of_length-le l {i = at + length t} (omega arith) in
    rw (take_all at l h, none, append-nil)

-- a text, and another from its end on, are the two as one text: within the list, and past its end
module _ (l : List ℕ) (at : ℕ) (s t : List ℕ) where
  far : length l ≤ at → with_text (with_text l at s) (at + length s) t ≡ with_text l at (s ++ t)
  far h = rw (beyond l at s h, beyond (l ++ s) (at + length s) t (omega (arith, length-append l s)), beyond l at (s ++ t) h, append_assoc)

  near : at ≤ length l → with_text (with_text l at s) (at + length s) t ≡ with_text l at (s ++ t)
  unfolding with_text
  near h =
      let lead = take at l ++ s in
      let rest = drop (at + length s) l in
      let size : length lead ≡ at + length s = length-append (take at l) s ∙ omega (arith, length-take-le at l h) in
      let all : at + length (s ++ t) ≡ at + length s + length t = omega (arith, length-append s t) in
      let back : drop (at + length s + length t) (lead ++ rest) ≡ drop (at + length s + length t) l =
      rw (← drop-drop (length t) (at + length s) (lead ++ rest), drop_at lead rest (at + length s) size, drop-drop) in
      rw (← append_assoc (take at l) s rest, take_at lead rest (at + length s) size, back, all) (simp append_assoc)

-- two texts, one after the other
pub then : {s t old mid new : List ℕ} {at m n : ℕ} → Printed s old at mid m → Printed t mid m new n → Printed (s ++ t) old at new n
then {s} {t} {old} {at = at} p q =
    let both : with_text (with_text old at s) (at + length s) t ≡ with_text old at (s ++ t) = ⊎_elim (λ h. far old at s t (omega arith)) (near old at s t) (below_or (length old) at) in
    record {
      written = q.written ∙ rw (p.written, p.after) both;
      after = q.after ∙ omega (arith, p.after, length-append s t);
    }

-- the newline comes after the last text
pub joined_last : (ts : List (List ℕ)) (t : List ℕ) → joined ts ++ t ≡ joined (ts ++ (t ∷ []))
unfolding joined
joined_last [] t = sym (append-nil t)
joined_last (s ∷ ts) t = append_assoc s (joined ts) t ∙ ap (λ (l : List ℕ). s ++ l) (joined_last ts t)

pub line : (ts : List (List ℕ)) {old new : List ℕ} {at n : ℕ} → Printed (joined (ts ++ ((10 ∷ []) ∷ []))) old at new n → Printed (printed ts) old at new n
unfolding printed
line ts p = rw (joined_last ts (10 ∷ [])) p

-- lines of a function, and one more
pub more : (f : ℕ → List ℕ) (n : ℕ) {t old mid new : List ℕ} {m next : ℕ} → Printed (joined (tabulate f 0 n)) old 0 mid m → Printed t mid m new next → t ≡ f n
    → Printed (joined (tabulate f 0 (n + 1))) old 0 new next
unfolding tabulate
more f n p q e =
    let i : n + 1 ≡ suc n = omega arith in
    rw (i, zero-add n, ← joined_last (tabulate f 0 n) (f n), ← e) (then p q)
