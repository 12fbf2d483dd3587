-- What is told of a piece's bytes are those that a file has.
use Rattle.std.proofs.Common.{◌≡◌, refl, sym, ap, ◌∙◌, ⊎_elim, List, [], ◌∷◌, ℕ, ◌+◌, ◌-◌, ◌≤◌, ◌<◌, min, arith, length, take, drop, length-drop, take_all}
use Rattle.std.proofs.Common.{lt-ltb}
use Rattle.numbers.proofs.Lists.{below_or}
use Rattle.text.specs.Lists.{part}
use Rattle.tracks.specs.TracksToFiles.{HoldsAt, clip}
use Rattle.tracks.proofs.Parts.{drop_take, length_clip}
use Rattle.tracks_plan.specs.Writes.{write_of}
use Rattle.tracks_plan.specs.declared.writing.Write.{Write}

take_least : (k : ℕ) (d : List ℕ) → take k d ≡ take (min (length d) k) d
take_least k d = ⊎_elim few many (below_or k (length d))
  where
    few : k < length d → take k d ≡ take (min (length d) k) d
    few h = let e : min (length d) k ≡ k = omega arith in rw e refl

    many : length d ≤ k → take k d ≡ take (min (length d) k) d
    many h = let e : min (length d) k ≡ length d = omega arith in rw e (take_all k d h ∙ sym (take_all (length d) d (omega arith)))

nothing : (l : List ℕ) → length l ≡ 0 → l ≡ []
nothing [] e = refl
nothing (x ∷ l) e = absurd (omega (arith, e))

module _ (place low high front : ℕ) (l out : List ℕ) where
  abbrev w : Write
  w = write_of place (length l) low high

  least : low - place < min (length l) (high - place) → part (low - place) (min (length l) (high - place)) l ≡ clip low high place l
  unfolding clip
  least h =
      let d = drop (low - place) l in
      let size : length d ≡ length l - (low - place) = length-drop (low - place) l in
      let e : min (length d) (high - place - (low - place)) ≡ min (length l) (high - place) - (low - place) = rw size (omega arith) in
      sym (drop_take (low - place) (high - place) l ∙ take_least (high - place - (low - place)) d ∙ ap (λ (k : ℕ). take k d) e)

  -- those that are told, at the place that is told
  pub told_held : HoldsAt out (front + w.at) (part w.begin w.end l) → HoldsAt out (front + (place - low)) (clip low high place l)
  unfolding write_of
  told_held e = ⊎_elim some none (below_or (low - place) (min (length l) (high - place)))
    where
      some : low - place < min (length l) (high - place) → HoldsAt out (front + (place - low)) (clip low high place l)
      some h = rw (← least h) (rw (lt-ltb (low - place) (min (length l) (high - place)) h) at e)

      none : min (length l) (high - place) ≤ low - place → HoldsAt out (front + (place - low)) (clip low high place l)
      none h =
          let z : clip low high place l ≡ [] = nothing (clip low high place l) (length_clip low high place l ∙ omega arith) in
          rw z (record { is = refl })
