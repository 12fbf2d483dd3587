-- What the ranges say, from the tests and to them.
use Rattle.std.proofs.Common.{◌≡◌, refl, sym, ◌∙◌, List, Bool, true, false, true≢false, ◌&&◌, ℕ, suc, ◌+◌, ◌<◌, ◌≤◌, arith, leb-true, eqb-true, leb, eqb}
use Rattle.std.proofs.Common.{length}
use denote.Floats.{passes, is_true}
use Rattle.numbers.specs.Tests.{each_below}
use Rattle.numbers.proofs.Tests.{each_below_at}
use Rattle.boards.specs.Boards.{Board, board, within, in_range, fitting}

pub both : (a b : Bool) → (a && b) ≡ true → (a ≡ true) × (b ≡ true)
both true b e = (refl, e)
both false b e = let z : ◌≡◌ {A = ℕ} 0 1 = cc in absurd (omega arith)

pub within_true : (least most n : ℕ) → within least most n ≡ true → (least ≤ n) × (n ≤ most)
unfolding within
within_true least most n e = let w = both (leb least n) (leb n most) e in (leb-true least n w.0, leb-true n most w.1)

-- one number fails a test
pub one_out : (f : ℕ → Bool) (n a : ℕ) → a < n → f a ≡ false → false ≡ each_below f n
one_out f n a l e = go (each_below f n) refl
  where
    go : (b : Bool) → each_below f n ≡ b → false ≡ b
    go true h = absurd (true≢false (sym (is_true (f a) (each_below_at f n a (passes (each_below f n) h) l)) ∙ e))
    go false h = refl

-- one number more passes it
pub one_more : (f : ℕ → Bool) (a : ℕ) → each_below f a ≡ true → f a ≡ true → each_below f (a + 1) ≡ true
unfolding each_below
one_more f a e h = let n : a + 1 ≡ suc a = omega arith in rw (n, h, e) refl

-- the test of an album's numbers, and what it says
abbrev pub each : Board → ℕ → Bool
each s a = within 1 540000 (s.frames a) && within 0 1000000 (s.due a)

pub record Album (s : Board) (a : ℕ) : Type 0 where
  pub framed : 1 ≤ s.frames a
  pub long : s.frames a ≤ 540000
  pub due_by : s.due a ≤ 1000000

pub record Ranges (s : Board) : Type 0 where
  pub some : 1 ≤ s.albums
  pub few : s.albums ≤ 8
  pub turning : 1 ≤ s.turn
  pub turn_by : s.turn ≤ 540000
  pub album : (a : ℕ) → a < s.albums → Album s a

pub album_true : (s : Board) (a : ℕ) → each s a ≡ true → Album s a
album_true s a e =
    let w = both (within 1 540000 (s.frames a)) (within 0 1000000 (s.due a)) e in
    let f = within_true 1 540000 (s.frames a) w.0 in
    record { framed = f.0; long = f.1; due_by = (within_true 0 1000000 (s.due a) w.1).1 }

-- an accepted call
pub record Fits (frames dues : List ℕ) (turn finishes late : ℕ) : Type 0 where
  pub dued : length dues ≡ length frames
  pub ranged : in_range (board frames dues turn) ≡ true
  pub finished : finishes ≡ length frames
  pub measured : late ≡ length frames

pub fits : (frames dues : List ℕ) (turn finishes late : ℕ) → fitting frames dues turn finishes late ≡ true → Fits frames dues turn finishes late
unfolding fitting
fits frames dues turn finishes late e =
    let n = length frames in
    let w = both (eqb (length dues) n) _ e in
    let v = both (in_range (board frames dues turn)) _ w.1 in
    let u = both (eqb finishes n) (eqb late n) v.1 in
    record { dued = eqb-true (length dues) n w.0; ranged = v.0; finished = eqb-true finishes n u.0; measured = eqb-true late n u.1 }

pub ranges : (s : Board) → in_range s ≡ true → Ranges s
unfolding in_range
ranges s e =
    let w = both (within 1 8 s.albums) _ e in
    let v = both (each_below (each s) s.albums) (within 1 540000 s.turn) w.1 in
    let n = within_true 1 8 s.albums w.0 in
    let t = within_true 1 540000 s.turn v.1 in
    record { some = n.0; few = n.1; turning = t.0; turn_by = t.1; album = λ a l. album_true s a (is_true (each s a) (each_below_at (each s) s.albums a (passes (each_below (each s) s.albums) v.0) l)) }
