-- A channel whose lowest and highest sample lie between the ends of full scale has no overs, and leaves nothing in
-- progress.
use Rattle.std.proofs.Common.{◌≡◌, ℕ, zero, suc, ◌+◌, ◌*◌, ◌/◌, ◌<◌, ◌≤◌, true, List, length, get_or, ℤ, pos, negsuc, ⊎_elim, le-div_iff_mul-le, arith, None}
use lib.Signed.{lt_z}
use Rattle.numbers.specs.Extremes.{lesser, greater, picked, extreme}
use Rattle.numbers.proofs.Extremes.{Best, least_best, greatest_best}
use Rattle.numbers.proofs.Lists.{below_or}
use Rattle.overs.specs.Overs.{end_of, none, normal, overs_of, Progress}
use Rattle.overs.proofs.Laws.{channel_is, between, quiet, quiet_after}

-- what is picked is no worse than any that it is picked from
picked_of : {R : ℤ → ℤ → Type 0} {pick : ℤ → ℤ → ℤ} → Best R pick → (s : ℤ) (f : ℕ → ℤ) (a n k : ℕ) → k < n → R (picked pick s f a n) (f (a + k))
unfolding picked
picked_of b s f a zero k l = absurd (omega arith)
picked_of b s f a (suc n) k l =
    ⊎_elim
    (λ less. b.next _ _ _ (b.left _ _) (picked_of b s f a n k less))
    (λ more. let e : k ≡ n = omega arith in rw e (b.right _ _))
    (below_or k n)

module _ (items : List ℤ) (ch c : ℕ) (inside : c < ch) (enough : ch ≤ length items) (rows : length items ≡ length items / ch * ch) where
  abbrev n : ℕ
  n = length items / ch

  abbrev at : ℕ → ℤ
  at k = get_or items (k * ch + c) (pos 0)

  some : 0 < n
  some = (le-div_iff_mul-le {k = ch} {x = 1} {y = length items} (omega arith)).1 (omega arith)

  module _ (low : lt_z (negsuc 8388607) (extreme lesser at 0 n) ≡ true) (high : lt_z (extreme greater at 0 n) (pos 8388607) ≡ true) where
    between_ends : (k : ℕ) → k < n → end_of (at (0 + k)) ≡ None
    between_ends k l = between (extreme lesser at 0 n) (at (0 + k)) (extreme greater at 0 n) low high (picked_of least_best (at 0) at 0 n k l) (picked_of greatest_best (at 0) at 0 n k l)

    pub quiet_channel : (p : Progress) → overs_of items ch c p ≡ record { count = 0; next = none }
    unfolding overs_of
    quiet_channel p = rw (channel_is ch c inside items n rows, quiet (normal p) at 0 n between_ends, quiet_after (normal p) at 0 n some between_ends)
