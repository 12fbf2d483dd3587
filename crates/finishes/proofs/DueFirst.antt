-- The simulation: the next album is the one that it is to be, and an album finishes after the turns of all that go no
-- later than it.
use Rattle.std.proofs.Common.{◌≡◌, refl, sym, ◌∙◌, ap, List, [], ◌∷◌, Bool, true, false, cond, ◌&&◌, ◌||◌, ◌⊎◌, inl, inr, ⊎_elim, ℕ, zero, suc, ◌+◌, ◌-◌, ◌*◌}
use Rattle.std.proofs.Common.{◌/◌, ◌<◌, ◌≤◌, zero-add, add-one, arith, ltb-true, ltb-false, eqb-true, leb-true, le-leb, lt-ltb, ltb, eqb, leb}
use borrow.Author.Tests.{eqb-false, lt-leb}
use Rattle.numbers.specs.Lists.{total}
use Rattle.numbers.proofs.Lists.{below_or}
use Rattle.boards.specs.Boards.{Board}
use Rattle.finishes.specs.Turns.{after_turn, after_turns, finish, next, NextIsDueFirst, by_due}
use Rattle.boards.proofs.Ranges.{ranges}
use Rattle.finishes.proofs.Counts.{moved, part_le, turn_same, turn_other, turn_less, turns, turns_of, needed, none_needed, one_needed, finish_done, finish_later}

-- the place of album a among the dues, by its due and then by its number; numbers are below 8
abbrev pub rank : (ℕ → ℕ) → ℕ → ℕ
rank due a = 8 * due a + a

-- the albums that go no later than a
abbrev pub no_later : (ℕ → ℕ) → ℕ → ℕ → Bool
no_later due a b = leb (rank due b) (rank due a)

-- the turns that album b takes before a finishes, or with it
abbrev pub ahead : Board → ℕ → ℕ → ℕ
ahead s a = needed s.turn (no_later s.due a) s.frames

-- they are counted album by album
module _ (s : Board) (a b sum : ℕ) (so_far : sum ≡ total (ahead s a) 0 b) where
  more : total (ahead s a) 0 (b + 1) ≡ sum + ahead s a b
  unfolding total
  more = rw (add-one, zero-add) (omega arith)

  pub counted : rank s.due b ≤ rank s.due a → 1 ≤ s.frames b → sum + ((s.frames b - 1) / s.turn + 1) ≡ total (ahead s a) 0 (b + 1)
  counted l f =
      let e : ahead s a b ≡ turns s.turn (s.frames b) = rw (le-leb (rank s.due b) (rank s.due a) l) in
      omega (arith, more, turns_of s.turn (s.frames b) f)

  pub passed : rank s.due a < rank s.due b → sum ≡ total (ahead s a) 0 (b + 1)
  passed l =
      let e : ahead s a b ≡ 0 = rw (lt-leb (rank s.due b) (rank s.due a) l) in
      omega (arith, more)

module _ (due left : ℕ → ℕ) where
  next_small : (k : ℕ) → next due left k ≤ k
  unfolding next
  next_small zero = omega arith
  next_small (suc k) = go (ltb 0 (left k) && (eqb (left (next due left k)) 0 || ltb (due k) (due (next due left k)))) (next_small k)
    where
      go : {a : ℕ} (b : Bool) → a ≤ k → cond b k a ≤ suc k
      go true l = omega arith
      go false l = omega arith

  -- where some album is unfinished: next is one of the albums, unfinished, and goes no later
  pub next_is : (k : ℕ) → k ≤ 8 → (b : ℕ) → b < k → 0 < left b
      → (next due left k < k) × (0 < left (next due left k)) × (rank due (next due left k) ≤ rank due b)
  unfolding next
  next_is zero s b l u = absurd (omega arith)
  next_is (suc k) s b l u =
      go (next due left k) (next_small k) (next_is k (omega arith) b) (ltb 0 (left k)) refl (eqb (left (next due left k)) 0) refl (ltb (due k) (due (next due left k))) refl (below_or b k)
    where
      last : k ≤ b → b ≡ k
      last c = omega arith

      Is : ℕ → Type 0
      Is x = (x < suc k) × (0 < left x) × (rank due x ≤ rank due b)

      go : (a : ℕ) → a ≤ k → (b < k → 0 < left b → (a < k) × (0 < left a) × (rank due a ≤ rank due b)) → (p : Bool) → ltb 0 (left k) ≡ p → (q : Bool) → eqb (left a) 0 ≡ q
          → (r : Bool) → ltb (due k) (due a) ≡ r → (b < k) ⊎ (k ≤ b) → Is (cond (p && (q || r)) k a)
      go a m h false e q f r g (inl c) = let w = h c u in (omega arith, w.1, w.2)
      go a m h false e q f r g (inr c) =
          absurd (omega (arith, ltb-false 0 (left k) e, ap left (last c)))
      go a m h true e true f r g (inl c) = absurd (omega (arith, h c u, eqb-true (left a) 0 f))
      go a m h true e false f true g (inl c) = (omega arith, ltb-true 0 (left k) e, omega (arith, h c u, ltb-true (due k) (due a) g))
      go a m h true e false f false g (inl c) = let w = h c u in (omega arith, w.1, w.2)
      go a m h true e true f r g (inr c) = (omega arith, ltb-true 0 (left k) e, omega (arith, ap due (last c)))
      go a m h true e false f true g (inr c) = (omega arith, ltb-true 0 (left k) e, omega (arith, ap due (last c)))
      go a m h true e false f false g (inr c) = (omega arith, omega (arith, eqb-false (left a) 0 f), omega (arith, ap due (last c), ltb-false (due k) (due a) g))

-- a rank tells the due and then the number
by_rank : (due : ℕ → ℕ) (x b n : ℕ) → rank due x ≤ rank due b → x < n → b < n → n ≤ 8 → (due x < due b) ⊎ ((due x ≡ due b) × (x ≤ b))
by_rank due x b n r l m s = ⊎_elim (λ h. inl h) (λ h. inr (omega arith, omega arith)) (below_or (due x) (due b))

pub next_is_due_first : NextIsDueFirst
next_is_due_first s e left a l u =
    let r = ranges s e in
    let w = next_is s.due left s.albums r.few in
    record { album = (w a l u).0; unfinished = (w a l u).1; first = λ b m v. by_rank s.due (next s.due left s.albums) b s.albums (w b m v).2 (w b m v).0 m r.few }

after_less : (t : ℕ) (order : List ℕ) (left : ℕ → ℕ) (a : ℕ) → after_turns t order left a ≤ left a
unfolding after_turns
after_less t [] left a = omega arith
after_less t (x ∷ order) left a = omega (arith, after_less t order (after_turn t x left) a, turn_less t x left a)

module _ (s : Board) (few : s.albums ≤ 8) (some : 0 < s.turn) where
  abbrev n : ℕ
  n = s.albums

  abbrev first : (ℕ → ℕ) → ℕ
  first left = next s.due left n

  abbrev then : (ℕ → ℕ) → ℕ → ℕ
  then left = after_turn s.turn (first left) left

  -- while album a is unfinished, the next turn is taken, and converts a frame at least
  module _ (most : ℕ) (left : ℕ → ℕ) (enough : total left 0 n ≤ suc most) (a : ℕ) (l : a < n) (u : 0 < left a) where
    is : (first left < n) × (0 < left (first left)) × (rank s.due (first left) ≤ rank s.due a)
    is = next_is s.due left n few a l u

    taken : by_due s (suc most) left ≡ first left ∷ by_due s most (then left)
    unfolding by_due
    taken = rw (lt-ltb 0 (left (first left)) is.1)

    fewer : total (then left) 0 n ≤ most
    fewer =
        omega (arith, moved left (then left) (first left) n (λ b e. sym (turn_other s.turn (first left) left b e)) is.0, turn_same s.turn (first left) left, is.1)

  -- enough turns finish every album
  pub all_done : (most : ℕ) (left : ℕ → ℕ) → total left 0 n ≤ most → (a : ℕ) → a < n → after_turns s.turn (by_due s most left) left a ≡ 0
  unfolding after_turns
  all_done zero left f a l = omega (arith, part_le left a n l, after_less s.turn (by_due s zero left) left a)
  all_done (suc most) left f a l = go (all_done most (then left)) (below_or 0 (left a))
    where
      go : (total (then left) 0 n ≤ most → (b : ℕ) → b < n → after_turns s.turn (by_due s most (then left)) (then left) b ≡ 0)
          → (0 < left a) ⊎ (left a ≤ 0) → after_turns s.turn (by_due s (suc most) left) left a ≡ 0
      go r (inl u) = rw (taken most left f a l u) (r (fewer most left f a l u) a l)
      go r (inr u) = omega (arith, after_less s.turn (by_due s (suc most) left) left a)

  -- an unfinished album finishes after the turns of all that go no later
  pub finishes : (most : ℕ) (left : ℕ → ℕ) → total left 0 n ≤ most → (a : ℕ) → a < n → 0 < left a
      → finish s.turn (by_due s most left) left a ≡ total (needed s.turn (no_later s.due a) left) 0 n
  finishes zero left f a l u = absurd (omega (arith, part_le left a n l))
  finishes (suc most) left f a l u =
      ap (λ order. finish s.turn order left a) (taken most left f a l u) ∙ finish_later s.turn x _ left a u
      ∙ omega (
        arith,
        go (finishes most (then left) (fewer most left f a l u) a l) (below_or 0 (then left a)),
        one_needed s.turn x n (no_later s.due a) left some w.0 (le-leb _ _ w.2) w.1,
      )
    where
      x : ℕ
      x = first left

      w : (x < n) × (0 < left x) × (rank s.due x ≤ rank s.due a)
      w = is most left f a l u

      mine : then left a ≤ 0 → (b : Bool) → eqb a x ≡ b → a ≡ x
      mine z true e = eqb-true a x e
      mine z false e = absurd (omega (arith, turn_other s.turn x left a (eqb-false a x e)))

      -- the album whose last turn this is: nothing that goes no later is left
      last : then left a ≤ 0 → (b : ℕ) → b < n → no_later s.due a b ≡ true → then left b ≡ 0
      last z b m e = ⊎_elim (λ v.
          let i : a ≡ x = mine z (eqb a x) refl in
          let r : b ≡ a = omega (arith, leb-true (rank s.due b) (rank s.due a) e, is most left f b m (omega (arith, turn_less s.turn x left b)), ap s.due i) in
          absurd (omega (arith, ap (then left) r))) (λ v. omega arith) (below_or 0 (then left b))

      go : (0 < then left a → finish s.turn (by_due s most (then left)) (then left) a ≡ total (needed s.turn (no_later s.due a) (then left)) 0 n)
          → (0 < then left a) ⊎ (then left a ≤ 0)
          → finish s.turn (by_due s most (then left)) (then left) a ≡ total (needed s.turn (no_later s.due a) (then left)) 0 n
      go r (inl v) = r v
      go r (inr v) = finish_done s.turn _ (then left) a (omega arith) ∙ sym (none_needed s.turn (no_later s.due a) (then left) n (last v))
