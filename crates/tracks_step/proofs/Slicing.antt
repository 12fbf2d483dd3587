-- A piece out of its frames is the album's.
use Rattle.std.proofs.Common.{◌≡◌, Ok, Err, ℕ, ◌+◌, ◌-◌, ◌*◌, ◌≤◌, ◌<◌, List, [], ◌++◌, min, sym, refl, ap, ◌∙◌, arith, false, true≢false, ⊎_elim, append_assoc}
use Rattle.std.proofs.Common.{ltb, length, take, drop, length-append, length-drop, take_at, drop_at, take_all, lt-ltb, le-ltb}
use Rattle.numbers.proofs.Lists.{below_or}
use Rattle.reference.specs.Frames.{frame_length}
use Rattle.reference.specs.Output.{stats}
use Rattle.reference.specs.Refusals.{decision, accepted, is_accepted}
use Rattle.reference.specs.Promises.{Converted, stats_told, ConvertPromise}
use Rattle.reference.specs.declared.Converter.{Converter}
use Rattle.reference.specs.declared.ConvertStats.{ConvertStats}
use Rattle.reference.proofs.Refusals.{error_refuses}
use Rattle.reference.proofs.Promises.{exit_accepted}
use Rattle.tracks.specs.Runs.{frames_from, there, run_from}
use Rattle.tracks.proofs.Sequences.{none_from, from_one, from_join, from_length}
use Rattle.tracks_step.specs.inner.Slices.{before_of, sliced, SliceArgs, Converting}

-- ---- slices
pub rest_is : (w : List ℕ) (p : ℕ) → take (length w - p) (drop p w) ≡ drop p w
rest_is w p = take_all (length w - p) (drop p w) (omega (arith, length-drop p w))

pub part_is : (w : List ℕ) (p s : ℕ) → take (p + s - p) (drop p w) ≡ take s (drop p w)
part_is w p s =
    let e : p + s - p ≡ s = omega arith in
    rw e refl

-- an accepted conversion's answer
is_ok : (answer : Converted) (s : ConvertStats) → decision answer ≡ accepted → stats_told answer ≡ s → answer ≡ Ok s
unfolding stats_told is_accepted
is_ok (Ok x) s d e = ap Ok e
is_ok (Err e) s d h = absurd (true≢false (ap is_accepted (sym d) ∙ error_refuses e))

pub converted : {conv : Converter} {first count : ℕ} {frames out out' counts' : List ℕ} (answer : Converted) → SliceArgs conv first count frames out
    → ConvertPromise conv (sliced conv.channels first count frames) false out [] out' counts' answer → Converting conv (sliced conv.channels first count frames) out' answer
converted {conv} {first} {count} {frames} answer a p =
    record {
      written = p.written ∙ exit_accepted _ _ _ a.taken;
      counted = is_ok answer (stats conv (sliced conv.channels first count frames)) (p.answered.decided ∙ a.taken) (p.answered.counted ∙ exit_accepted _ _ _ a.taken);
    }

-- ---- frames in three parts
module _ (n : ℕ) (some : 0 < n) (F : ℕ → List ℕ) (long : (k : ℕ) → length (F k) ≡ frame_length n) (f first count : ℕ) (within : first + count ≤ f) where
  abbrev size : ℕ
  size = frame_length n

  abbrev low : ℕ
  low = first - 1

  abbrev all : List ℕ
  all = frames_from F low (min (first + count + 1) f - low)

  abbrev b : ℕ
  b = before_of first

  abbrev a : ℕ
  a = min (first + count + 1) f - (first + count)

  abbrev B : List ℕ
  B = frames_from F low b

  abbrev M : List ℕ
  M = frames_from F first count

  abbrev A : List ℕ
  A = frames_from F (first + count) a

  parts : all ≡ B ++ M ++ A
  parts =
      let e : min (first + count + 1) f - low ≡ b + count + a = omega arith in
      let g : low + b ≡ first = omega arith in
      let h : low + (b + count) ≡ first + count = omega arith in
      rw (e, from_join F low (b + count) a, from_join F low b count, g, h) refl

  B_long : length B ≡ b * size
  B_long = from_length size F long low b

  M_long : length M ≡ count * size
  M_long = from_length size F long first count

  A_long : length A ≡ a * size
  A_long = from_length size F long (first + count) a

  BM_long : length (B ++ M) ≡ b * size + count * size
  BM_long = length-append B M ∙ omega (arith, B_long, M_long)

  all_long : length all ≡ b * size + count * size + a * size
  all_long = ap length parts ∙ length-append (B ++ M) A ∙ omega (arith, BM_long, A_long)

  pub reaches : b * size + count * size ≤ length all
  reaches = omega (arith, all_long)

  first_part : take (b * size) all ≡ B
  first_part = ap (take (b * size)) (parts ∙ append_assoc B M A) ∙ take_at B (M ++ A) (b * size) B_long

  middle_part : take (count * size) (drop (b * size) all) ≡ M
  middle_part = ap (λ (l : List ℕ). take (count * size) (drop (b * size) l)) (parts ∙ append_assoc B M A) ∙ rw (drop_at B (M ++ A) (b * size) B_long) (take_at M A (count * size) M_long)

  last_part : drop (b * size + count * size) all ≡ A
  last_part = ap (drop (b * size + count * size)) parts ∙ drop_at (B ++ M) A (b * size + count * size) BM_long

  before_is : B ≡ there (ltb 0 first) (F (first - 1))
  unfolding there
  before_is = ⊎_elim none one (below_or 0 first)
    where
      none : 0 < first → B ≡ there (ltb 0 first) (F (first - 1))
      none h =
          let e : b ≡ 1 = omega arith in
          rw (e, lt-ltb 0 first h) (from_one F low)

      one : first ≤ 0 → B ≡ there (ltb 0 first) (F (first - 1))
      one h =
          let e : b ≡ 0 = omega arith in
          rw (e, le-ltb 0 first h) (none_from F low)

  after_is : A ≡ there (ltb (first + count) f) (F (first + count))
  unfolding there
  after_is = ⊎_elim one none (below_or (first + count) f)
    where
      one : first + count < f → A ≡ there (ltb (first + count) f) (F (first + count))
      one h =
          let e : a ≡ 1 = omega arith in
          rw (e, lt-ltb (first + count) f h) (from_one F (first + count))

      none : f ≤ first + count → A ≡ there (ltb (first + count) f) (F (first + count))
      none h =
          let e : a ≡ 0 = omega arith in
          rw (e, le-ltb (first + count) f h) (none_from F (first + count))

  has_after : ltb (b * size + count * size) (length all) ≡ ltb (first + count) f
  has_after = ⊎_elim one none (below_or (first + count) f)
    where
      one : first + count < f → ltb (b * size + count * size) (length all) ≡ ltb (first + count) f
      one h =
          let e : a ≡ 1 = omega arith in
          let l = rw e at all_long in
          lt-ltb _ _ (omega (arith, l)) ∙ sym (lt-ltb (first + count) f h)

      none : f ≤ first + count → ltb (b * size + count * size) (length all) ≡ ltb (first + count) f
      none h =
          let e : a ≡ 0 = omega arith in
          let l = rw e at all_long in
          le-ltb _ _ (omega (arith, l)) ∙ sym (le-ltb (first + count) f h)

  pub sliced_is : sliced n first count all ≡ run_from F f first count
  unfolding sliced run_from
  sliced_is = rw (first_part, middle_part, last_part, has_after, before_is, after_is) refl
