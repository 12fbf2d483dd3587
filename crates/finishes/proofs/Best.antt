-- No order has a smaller greatest lateness than the simulation: the albums that go no later than album a are due no
-- later, and in any order the last of them finishes no earlier than a does in the simulation.
use Rattle.std.proofs.Common.{◌≡◌, refl, List, [], ◌∷◌, Bool, true, false, cond, ◌⊎◌, inl, inr, ⊎_elim, ℕ, zero, suc, ◌+◌, ◌-◌, ◌<◌, ◌≤◌, arith, ltb-true}
use Rattle.std.proofs.Common.{ltb-false, leb-true, le→leb, ℤ, pos, negsuc, neg_ℤ, ◌-ℤ◌, ◌≤ℤ◌}
use lib.Signed.{lt_z}
use Rattle.numbers.specs.Lists.{total}
use Rattle.numbers.proofs.Integers.{pp, nn, add_parts, pp_neg, nn_neg}
use Rattle.numbers.proofs.Lists.{below_or}
use Rattle.boards.specs.Boards.{Board}
use Rattle.finishes.specs.Turns.{after_turn, after_turns, finish, finish_in, lateness_in, simulated, GivesTurns, greatest, greatest_lateness, DueFirstIsBest}
use Rattle.finishes.proofs.Counts.{turn_less, needed, none_needed, no_more, finish_done, finish_later}
use Rattle.finishes.proofs.DueFirst.{rank, no_later, all_done, finishes}
use Rattle.boards.proofs.Ranges.{Ranges, ranges}

-- ---- turns are counted

-- where each album of a set finishes by turn N, their turns are N at most
by_then : (t n : ℕ) (p : ℕ → Bool) → 0 < t → (order : List ℕ) (left : ℕ → ℕ) (N : ℕ)
    → ((b : ℕ) → b < n → p b ≡ true → (after_turns t order left b ≡ 0) × (finish t order left b ≤ N))
    → total (needed t p left) 0 n ≤ N
unfolding after_turns
by_then t n p some [] left N h = omega (arith, none_needed t p left n (λ b l e. (h b l e).0))
by_then t n p some (x ∷ order) left zero h = omega (
  arith,
  none_needed t p left n (λ b l e.
      ⊎_elim (λ u. absurd (omega (arith, (h b l e).1, finish_later t x order left b u))) (λ u. omega arith) (below_or 0 (left b))),
)
by_then t n p some (x ∷ order) left (suc N) h =
    omega (arith, no_more t x n p left some, by_then t n p some order (after_turn t x left) N (λ b l e. ((h b l e).0, go b (h b l e).1 (below_or 0 (left b)))))
  where
    go : (b : ℕ) → finish t (x ∷ order) left b ≤ suc N → (0 < left b) ⊎ (left b ≤ 0) → finish t order (after_turn t x left) b ≤ N
    go b f (inl u) = omega (arith, finish_later t x order left b u)
    go b f (inr u) = omega (arith, finish_done t order (after_turn t x left) b (omega (arith, turn_less t x left b)))

-- ---- an order of ℤ by its parts in ℕ

abbrev below : ℤ → ℤ → Type 0
below x y = pp x + nn y ≤ pp y + nn x

below_le : (x y : ℤ) → below x y → x ≤ℤ y
below_le (pos a) (pos b) h = record { le = le→leb a b (omega arith) }
below_le (pos a) (negsuc b) h = absurd (omega arith)
below_le (negsuc a) (pos b) h = record { le = tt }
below_le (negsuc a) (negsuc b) h = record { le = le→leb b a (omega arith) }

-- the greater of two
ltZ_true : (x y : ℤ) → lt_z x y ≡ true → below x y
ltZ_true (pos a) (pos b) h = omega (arith, ltb-true a b h)
ltZ_true (pos a) (negsuc b) h = absurd (let z : ◌≡◌ {A = ℕ} 0 1 = cc in omega arith)
ltZ_true (negsuc a) (pos b) h = omega arith
ltZ_true (negsuc a) (negsuc b) h = omega (arith, ltb-true b a h)

ltZ_false : (x y : ℤ) → lt_z x y ≡ false → below y x
ltZ_false (pos a) (pos b) h = omega (arith, ltb-false a b h)
ltZ_false (pos a) (negsuc b) h = omega arith
ltZ_false (negsuc a) (pos b) h = absurd (let z : ◌≡◌ {A = ℕ} 0 1 = cc in omega arith)
ltZ_false (negsuc a) (negsuc b) h = omega (arith, ltb-false b a h)

module _ (f : ℕ → ℤ) where
  greatest_below : (n : ℕ) (g : ℤ) → ((a : ℕ) → a ≤ n → below (f a) g) → below (greatest f n) g
  unfolding greatest
  greatest_below zero g h = h 0 (omega arith)
  greatest_below (suc n) g h = go (lt_z (greatest f n) (f (suc n))) (greatest_below n g (λ a l. h a (omega arith))) (h (suc n) (omega arith))
    where
      go : (b : Bool) → below (greatest f n) g → below (f (suc n)) g → below (cond b (f (suc n)) (greatest f n)) g
      go true p q = q
      go false p q = p

  below_greatest : (n a : ℕ) → a ≤ n → below (f a) (greatest f n)
  unfolding greatest
  below_greatest zero a l = let i : a ≡ 0 = omega arith in rw i (omega arith)
  below_greatest (suc n) a l = go (lt_z (greatest f n) (f (suc n))) refl (below_greatest n a) (below_or a (suc n))
    where
      go : (b : Bool) → lt_z (greatest f n) (f (suc n)) ≡ b → (a ≤ n → below (f a) (greatest f n)) → (a < suc n) ⊎ (suc n ≤ a) → below (f a) (cond b (f (suc n)) (greatest f n))
      go true e h (inl m) = omega (arith, h (omega arith), ltZ_true (greatest f n) (f (suc n)) e)
      go false e h (inl m) = h (omega arith)
      go true e h (inr m) = let i : a ≡ suc n = omega arith in rw i (omega arith)
      go false e h (inr m) = let i : a ≡ suc n = omega arith in rw i (ltZ_false (greatest f n) (f (suc n)) e)

-- ---- lateness

late_parts : (f d : ℕ) → pp (pos f -ℤ pos d) + d ≡ nn (pos f -ℤ pos d) + f
late_parts f d = omega (arith, add_parts (pos f) (neg_ℤ (pos d)), pp_neg (pos d), nn_neg (pos d))

module _ (s : Board) (r : Ranges s) where
  pub simulated_finish : (a : ℕ) → a < s.albums → finish_in s (simulated s) a ≡ total (needed s.turn (no_later s.due a) s.frames) 0 s.albums
  unfolding finish_in simulated
  simulated_finish a l = finishes s r.few r.turning (total s.frames 0 s.albums) s.frames (omega arith) a l (r.album a l).framed

  pub simulated_gives : GivesTurns s (simulated s)
  unfolding simulated
  simulated_gives = record { done = all_done s r.few r.turning (total s.frames 0 s.albums) s.frames (omega arith) }

  -- what no album's lateness in the order exceeds, none in the simulation does
  bound_kept : (order : List ℕ) → GivesTurns s order → (g : ℤ) → ((b : ℕ) → b < s.albums → below (lateness_in s order b) g)
      → (a : ℕ) → a < s.albums → below (lateness_in s (simulated s) a) g
  unfolding finish_in lateness_in
  bound_kept order o g h a l =
      omega (
        arith,
        simulated_finish a l,
        late_parts (finish_in s (simulated s) a) (s.due a),
        h a l,
        late_parts (finish_in s order a) (s.due a),
        by_then s.turn s.albums (no_later s.due a) r.turning order s.frames (pp g + s.due a - nn g) (λ b m e.
            (o.done b m, omega (arith, h b m, late_parts (finish_in s order b) (s.due b), leb-true (rank s.due b) (rank s.due a) e, r.few))),
      )

pub due_first_is_best : DueFirstIsBest
unfolding greatest_lateness
due_first_is_best s e =
    let r = ranges s e in (
      simulated_gives s r,
      λ order o. below_le _ _ (greatest_below (lateness_in s (simulated s)) (s.albums - 1) (greatest_lateness s order) (λ a l.
          bound_kept s r order o (greatest_lateness s order) (λ b m. below_greatest (lateness_in s order) (s.albums - 1) b (omega arith)) a (omega (arith, r.some)))),
    )
