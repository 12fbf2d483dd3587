-- First bytes end to end are heads.
use Rattle.std.proofs.Common.{◌≡◌, refl, sym, ap, ap₂, subst, ◌∙◌, List, [], ◌∷◌, ◌++◌, map, ℕ, suc, ◌+◌, ◌*◌, arith, length, take, take_at, take-take}
use Rattle.std.proofs.Common.{length-take-le}
use mathlib.Core.List.{flat_map}
use lib.Seq.{drop-append-add}
use Rattle.numbers.specs.Lists.{tabulate}
use Rattle.numbers.proofs.Lists.{tabulate_same, tabulate_join}
use Rattle.tracks.specs.Tracks.{Head, head_at, heads_of}
use Rattle.tracks.specs.Windows.{HeadsOf}
use Rattle.tracks_to_files.specs.Heads.{HeadsCut}

module _ (b : List ℕ) (l : ℕ) (bs ls : List ℕ) (long : length b ≡ 92) where
  abbrev f : ℕ → Head
  f = head_at (b ++ bs) (l ∷ ls)

  abbrev g : ℕ → Head
  g = head_at bs ls

  abbrev one : Head
  one = record { bytes = b; long = l }

  first : f 0 ≡ one
  first = ap (λ (x : List ℕ). record { bytes = x; long = l }) (take_at b bs 92 long)

  later : (k : ℕ) → f (0 + 1 + k) ≡ g (0 + k)
  later k =
      let i : 0 + 1 + k ≡ suc k = omega arith in
      let at : 92 * suc k ≡ length b + 92 * k = omega (arith, long) in
      let z : 0 + k ≡ k = omega arith in
      rw (i, z, at, drop-append-add b bs (92 * k)) refl

  front : tabulate f 0 1 ≡ f 0 ∷ []
  unfolding tabulate
  front = refl

  heads_cons : heads_of (b ++ bs) (l ∷ ls) ≡ one ∷ heads_of bs ls
  unfolding heads_of
  heads_cons =
      let e : suc (length ls) ≡ 1 + length ls = omega arith in
      ap (tabulate f 0) e ∙ tabulate_join f 0 1 (length ls)
      ∙ ap₂ (λ (x r : List Head). x ++ r) (front ∙ ap (λ (h : Head). h ∷ []) first) (tabulate_same f g (0 + 1) 0 (length ls) (λ k h. later k))

no_heads : heads_of [] [] ≡ []
unfolding heads_of tabulate
no_heads = refl

pub heads_cut : HeadsCut
unfolding flat_map
heads_cut [] e = subst (λ (hs : List Head). HeadsOf [] hs) (sym no_heads) tt
heads_cut (file ∷ files) e =
    subst (λ (hs : List Head). HeadsOf (file ∷ files) hs)
    (sym (heads_cons (take 92 file) (length file) (flat_map (take 92) files) (map length files) (length-take-le 92 file e.0)))
    (record { begins = sym (take-take 92 92 file (omega arith)); long = refl }, heads_cut files e.1)
