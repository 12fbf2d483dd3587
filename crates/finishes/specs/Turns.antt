-- Request 11: turns on one board, and why no other order of them is better.
use Rattle.std.specs.Prelude.{◌≡◌, List, [], ◌∷◌, true, cond, ◌&&◌, ◌||◌, ◌⊎◌, ℕ, zero, suc, ◌-◌, ◌<◌, ◌≤◌, ltb, eqb, ℤ, pos, ◌-ℤ◌, ◌≤ℤ◌}
use Rattle.std.specs.Int.Signed.{lt_z}
use Rattle.numbers.specs.Lists.{total}
use Rattle.boards.specs.Boards.{Board, in_range}

-- ---- the simulation, turn by turn. `left a` is how many frames of album a are left

-- of the albums 0, …, n - 1, the unfinished one that is due first. A later number is taken only if it is due earlier
unfoldable pub next : (ℕ → ℕ) → (ℕ → ℕ) → ℕ → ℕ
next due left zero = 0
next due left (suc k) =
    let a = next due left k in
    cond (ltb 0 (left k) && (eqb (left a) 0 || ltb (due k) (due a))) k a

-- a turn for album x converts the turn length or, if less is left, all of it: `-` stops at 0
unfoldable pub after_turn : ℕ → ℕ → (ℕ → ℕ) → ℕ → ℕ
after_turn turn x left a = cond (eqb a x) (left a - turn) (left a)

-- the album of each turn: each goes to the next album, until none is unfinished; `most` turns at most
unfoldable pub by_due : Board → ℕ → (ℕ → ℕ) → List ℕ
by_due s zero left = []
by_due s (suc most) left =
    let a = next s.due left s.albums in
    cond (ltb 0 (left a)) (a ∷ by_due s most (after_turn s.turn a left)) []

-- each turn converts a frame at least, so there are no more turns than frames
unfoldable pub simulated : Board → List ℕ
simulated s = by_due s (total s.frames 0 s.albums) s.frames

-- ---- finish and lateness, in the simulation and in any other order. An order lists the album of each turn

-- the turn, counted from 1, in which nothing of album a is left any more: turns pass while some of it is left
unfoldable pub finish : ℕ → List ℕ → (ℕ → ℕ) → ℕ → ℕ
finish turn [] left a = 0
finish turn (x ∷ order) left a = cond (eqb (left a) 0) 0 (suc (finish turn order (after_turn turn x left) a))

unfoldable pub finish_in : Board → List ℕ → ℕ → ℕ
finish_in s order a = finish s.turn order s.frames a

-- finish minus due, signed
unfoldable pub lateness_in : Board → List ℕ → ℕ → ℤ
lateness_in s order a = pos (finish_in s order a) -ℤ pos (s.due a)

-- the greatest of f 0, …, f n
unfoldable pub greatest : (ℕ → ℤ) → ℕ → ℤ
greatest f zero = f 0
greatest f (suc n) = cond (lt_z (greatest f n) (f (suc n))) (f (suc n)) (greatest f n)

unfoldable pub greatest_lateness : Board → List ℕ → ℤ
greatest_lateness s order = greatest (lateness_in s order) (s.albums - 1)

-- ---- the turn is the right album's

-- what makes an album the next one: it is unfinished, and every other unfinished one is due later, or is due with it
-- and has a higher number
pub record IsNext (s : Board) (left : ℕ → ℕ) (x : ℕ) : Type 0 where
  pub album : x < s.albums
  pub unfinished : 0 < left x
  pub first : (b : ℕ) → b < s.albums → 0 < left b → (s.due x < s.due b) ⊎ ((s.due x ≡ s.due b) × (x ≤ b))

-- while an album is unfinished, `next` is the next one; proved in proofs/DueFirst
abbrev pub NextIsDueFirst : Type 0
NextIsDueFirst = (s : Board) → in_range s ≡ true → (left : ℕ → ℕ) (a : ℕ) → a < s.albums → 0 < left a → IsNext s left (next s.due left s.albums)

-- ---- no order is better

-- what is left after the turns of an order
unfoldable pub after_turns : ℕ → List ℕ → (ℕ → ℕ) → ℕ → ℕ
after_turns turn [] left = left
after_turns turn (x ∷ order) left = after_turns turn order (after_turn turn x left)

-- an order that gives each album its turns: nothing is left of any. Turns may be wasted, on a finished album or on none
pub record GivesTurns (s : Board) (order : List ℕ) : Type 0 where
  pub done : (a : ℕ) → a < s.albums → after_turns s.turn order s.frames a ≡ 0

-- the simulation gives each album its turns, and every order that does has a greatest lateness at least as great;
-- proved in proofs/Best
abbrev pub DueFirstIsBest : Type 0
DueFirstIsBest =
    (s : Board) → in_range s ≡ true
    → GivesTurns s (simulated s)
    × ((order : List ℕ) → GivesTurns s order → greatest_lateness s (simulated s) ≤ℤ greatest_lateness s order)
