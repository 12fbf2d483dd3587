-- Frames end to end, and an album with the idle frames around it.
use Rattle.std.proofs.Common.{◌≡◌, refl, sym, ap, ◌∙◌, Bool, true, false, cond, ⊎_elim, List, [], ◌++◌, append-nil, append_assoc, ℕ, zero, suc, ◌+◌, ◌-◌, ◌*◌}
use Rattle.std.proofs.Common.{◌≤◌, ◌<◌, add-zero, zero-add, add-one, arith, ltb, length, take, drop, replicate, length-append, length-drop, drop_at, take_all}
use Rattle.std.proofs.Common.{lt-ltb, le-ltb, ltb-true}
use lib.ListN.{length-replicate}
use lib.Seq.{take-append-le, drop-append-le}
use Rattle.numbers.specs.Lists.{tabulate}
use Rattle.numbers.proofs.Lists.{tabulate_same, below_or, part_end}
use Rattle.text.specs.Text.{joined}
use Rattle.text.proofs.Printing.{joined_last}
use Rattle.reference.specs.Frames.{Run, run, frame_length, frame, idle, neighbour, before_frame, after_frame, sequence}
use Rattle.tracks.specs.Runs.{frames_from, there, run_from}

one_more : (F : ℕ → List ℕ) (a n : ℕ) → frames_from F a (n + 1) ≡ frames_from F a n ++ F (a + n)
unfolding frames_from tabulate
one_more F a n = rw add-one (sym (joined_last (tabulate F a n) (F (a + n))))

pub none_from : (F : ℕ → List ℕ) (a : ℕ) → frames_from F a 0 ≡ []
unfolding frames_from tabulate joined
none_from F a = refl

pub from_join : (F : ℕ → List ℕ) (a m n : ℕ) → frames_from F a (m + n) ≡ frames_from F a m ++ frames_from F (a + m) n
from_join F a m zero = rw (add-zero m, none_from F (a + m), append-nil) refl
from_join F a m (suc n) =
    let e : m + suc n ≡ m + n + 1 = omega arith in
    let f : a + (m + n) ≡ a + m + n = omega arith in
    rw (e, one_more F a (m + n), from_join F a m n, f, append_assoc (frames_from F a m) (frames_from F (a + m) n) (F (a + m + n)))
    (ap (λ (l : List ℕ). frames_from F a m ++ l) (sym (one_more F (a + m) n) ∙ rw add-one refl))

pub from_same : (F G : ℕ → List ℕ) (a b n : ℕ) → ((k : ℕ) → k < n → F (a + k) ≡ G (b + k)) → frames_from F a n ≡ frames_from G b n
unfolding frames_from
from_same F G a b n h = ap joined (tabulate_same F G a b n h)

pub from_one : (F : ℕ → List ℕ) (a : ℕ) → frames_from F a 1 ≡ F a
from_one F a = one_more F a 0 ∙ rw (none_from F a, add-zero a) refl

module _ (size : ℕ) (F : ℕ → List ℕ) (long : (k : ℕ) → length (F k) ≡ size) where
  pub from_length : (a n : ℕ) → length (frames_from F a n) ≡ n * size
  from_length a zero = rw (none_from F a) (omega arith)
  from_length a (suc n) = rw (← add-one n, one_more F a n, length-append (frames_from F a n) (F (a + n)), from_length a n, long (a + n)) (omega arith)

  -- frame k of frames from 0 on
  pub from_at : (n k : ℕ) → k < n → take size (drop (k * size) (frames_from F 0 n)) ≡ F k
  from_at zero k h = absurd (omega arith)
  from_at (suc n) k h = rw (← add-one n, one_more F 0 n, zero-add n) (⊎_elim (λ l. inside l (from_at n k l)) last (below_or k n))
    where
      inside : k < n → take size (drop (k * size) (frames_from F 0 n)) ≡ F k → take size (drop (k * size) (frames_from F 0 n ++ F n)) ≡ F k
      inside l before =
          let e : k * size + size ≤ length (frames_from F 0 n) = rw (from_length 0 n) (part_end k n size l) in
          rw (
            drop-append-le (k * size) (frames_from F 0 n) (F n) (omega arith),
            take-append-le size (drop (k * size) (frames_from F 0 n)) (F n) (omega (arith, length-drop (k * size) (frames_from F 0 n))),
          ) before

      last : n ≤ k → take size (drop (k * size) (frames_from F 0 n ++ F n)) ≡ F k
      last l =
          let e : k ≡ n = omega arith in
          rw (e, drop_at (frames_from F 0 n) (F n) (n * size) (from_length 0 n)) (take_all size (F n) (omega (arith, long n)))

-- ---- an album's frames, an idle one before and an idle one after
module _ (n : ℕ) (F : ℕ → List ℕ) (f : ℕ) (long : (k : ℕ) → length (F k) ≡ frame_length n) where
  abbrev quiet : List ℕ
  quiet = replicate (frame_length n) idle

  G : ℕ → List ℕ
  G zero = quiet
  G (suc k) = cond (ltb k f) (F k) quiet

  G_long : (k : ℕ) → length (G k) ≡ frame_length n
  unfolding G
  G_long zero = length-replicate (frame_length n) idle
  G_long (suc k) = go (ltb k f)
    where
      go : (b : Bool) → length (cond b (F k) quiet) ≡ frame_length n
      go true = long k
      go false = length-replicate (frame_length n) idle

  abbrev pub whole : Run
  whole = run false [] (frames_from F 0 f) false []

  G_in : (k : ℕ) → k < f → G (1 + k) ≡ F (0 + k)
  unfolding G
  G_in k h =
      let e : 1 + k ≡ suc k = omega arith in
      rw (e, zero-add k, lt-ltb k f h) refl

  G_last : G (1 + f) ≡ quiet
  unfolding G
  G_last =
      let e : 1 + f ≡ suc f = omega arith in
      rw (e, le-ltb f f (omega arith)) refl

  sequence_is : sequence n whole ≡ frames_from G 0 (1 + f + 1)
  unfolding sequence neighbour G
  sequence_is =
      sym (rw (
        from_join G 0 (1 + f) 1,
        from_join G 0 1 f,
        from_one G 0,
        zero-add (1 + f),
        zero-add 1,
        from_one G (1 + f),
        G_last,
        from_same G F 1 0 f G_in,
        append_assoc quiet (frames_from F 0 f) quiet,
      ) refl)

  frame_is : (k : ℕ) → k < 1 + f + 1 → frame n (sequence n whole) k ≡ G k
  unfolding frame
  frame_is k h = rw sequence_is (from_at (frame_length n) G G_long (1 + f + 1) k h)

  -- the frames next to a piece are those of the sequence
  pub before_is : (first count : ℕ) → first + count ≤ f → before_frame n (run_from F f first count) ≡ frame n (sequence n whole) first
  unfolding run_from neighbour there G
  before_is zero count h = sym (frame_is 0 (omega arith))
  before_is (suc k) count h =
      let e : suc k - 1 ≡ k = omega arith in
      let there-is : ltb 0 (suc k) ≡ true = lt-ltb 0 (suc k) (omega arith) in
      rw (e, there-is) (sym (frame_is (suc k) (omega arith) ∙ rw (lt-ltb k f (omega arith)) refl))

  pub after_is : (first count : ℕ) → first + count ≤ f → after_frame n (run_from F f first count) ≡ frame n (sequence n whole) (suc (first + count))
  unfolding run_from neighbour there G
  after_is first count h = go (ltb (first + count) f) ∙ sym (frame_is (suc (first + count)) (omega arith))
    where
      go : (b : Bool) → neighbour n b (there b (F (first + count))) ≡ cond b (F (first + count)) quiet
      go true = refl
      go false = refl

same_there : (b : Bool) (x y : List ℕ) → (b ≡ true → x ≡ y) → there b x ≡ there b y
unfolding there
same_there true x y h = h refl
same_there false x y h = refl

-- a run depends on the frames that it has
pub run_same : (F G : ℕ → List ℕ) (f first count : ℕ) → (0 < first → F (first - 1) ≡ G (first - 1)) → ((k : ℕ) → k < count → F (first + k) ≡ G (first + k))
    → (first + count < f → F (first + count) ≡ G (first + count)) → run_from F f first count ≡ run_from G f first count
unfolding run_from
run_same F G f first count p q r =
    rw (
      from_same F G first first count q,
      same_there (ltb 0 first) (F (first - 1)) (G (first - 1)) (λ e. p (ltb-true 0 first e)),
      same_there (ltb (first + count) f) (F (first + count)) (G (first + count)) (λ e. r (ltb-true (first + count) f e)),
    ) refl
