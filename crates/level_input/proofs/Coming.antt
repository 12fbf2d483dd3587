-- A line byte by byte: what has come of it.
use Rattle.std.proofs.Common.{◌≡◌, sym, ap, subst, ◌∙◌, List, [], ◌++◌, append-nil, ⊎_elim, ℕ, suc, ◌+◌, ◌≤◌, ◌<◌, eq-or-lt_of_le, arith, length, take, drop}
use Rattle.std.proofs.Common.{get_or, length-drop, get_or-take, length-take-le, take_all, Option}
use borrow.Rule.Slice.PartMut.{put_mid, same_len_mid, mid_of}
use Rattle.std.specs.Io.KnownBytes.{Consumes, IsAtEnd}
use Rattle.std.proofs.lemmas.Slice.{take-put_mid, take-put_mid_below}
use Rattle.level_input.specs.inner.Lines.{NoNewline, Newline, Unended}
use Rattle.level_input.proofs.Known.{consumes_none, consumes_more}

-- the first n bytes have come, with no newline
pub record Coming (line : List ℕ) (old new : Option (List ℕ)) (n : ℕ) : Type 0 where
  pub inside : n ≤ length line
  pub before : NoNewline line n
  pub read : Consumes old new (take n line)

pub nothing_came : (line : List ℕ) (old : Option (List ℕ)) → Coming line old old 0
nothing_came line old = record { inside = omega arith; before = λ k l e. absurd (omega (arith, l)); read = consumes_none old }

kept : (n : ℕ) (l m : List ℕ) → take n m ≡ take n l → NoNewline l n → NoNewline m n
kept n l m same none k j e = none k j (sym (get_or-take n l k 0 j) ∙ ap (λ z. get_or z k 0) (sym same) ∙ get_or-take n m k 0 j ∙ e)

-- one byte is asked for, and `got` of it come
module _ (line part : List ℕ) (old mid new : Option (List ℕ)) (n k got : ℕ) (so : Coming line old mid n) (here : n < length line) (one : k ≡ 1)
    (long : length part ≡ length (mid_of n k line)) (read : Consumes mid new (take got part)) where
  abbrev next : List ℕ
  next = put_mid n k line part

  part_long : length part ≡ 1
  part_long = long ∙ length-take-le k (drop n line) (omega (arith, here, one, length-drop n line)) ∙ one

  next_long : length next ≡ length line
  next_long = same_len_mid n k line part long

  same : take n next ≡ take n line
  same = take-put_mid_below n k line part n (omega arith) so.inside

  pub none_came : got ≡ 0 → IsAtEnd new → Unended next old new
  none_came e end = record {
    n = n;
    inside = omega (arith, next_long, so.inside);
    before = kept n line next same so.before;
    read =
        subst (λ z. Consumes old new z)
        (append-nil (take n line) ∙ sym same)
        (consumes_more old mid new (take n line) [] so.read (subst (λ g. Consumes mid new (take g part)) e read));
    end = λ l. end;
  }

  module _ (some : got ≡ 0 → ⊥) where
    all_read : Consumes old new (take (suc n) next)
    all_read =
        subst (λ z. Consumes old new z)
        (ap (λ z. take n line ++ z) (take_all got part (omega (arith, some, part_long))) ∙ sym (take-put_mid n k line part (suc n) (omega (arith, part_long)) so.inside))
        (consumes_more old mid new (take n line) (take got part) so.read read)

    pub newline_came : get_or next n 0 ≡ 10 → Newline next old new n
    newline_came e = record { inside = omega (arith, next_long, here); before = kept n line next same so.before; newline = e; read = all_read }

    pub byte_came : (get_or next n 0 ≡ 10 → ⊥) → Coming next old new (n + 1)
    byte_came other = record {
      inside = omega (arith, next_long, here);
      before = λ j l e.
          ⊎_elim
          (λ q. other (subst (λ z. get_or next z 0 ≡ 10) q e))
          (λ q. kept n line next same so.before j q e)
          (eq-or-lt_of_le {n = j} {m = n} (omega (arith, l)));
      read = let one_more : suc n ≡ n + 1 = omega arith in subst (λ z. Consumes old new (take z next)) one_more all_read;
    }

pub full : (line : List ℕ) (old new : Option (List ℕ)) (n : ℕ) → Coming line old new n → length line ≤ n → Unended line old new
full line old new n so all = record { n = n; inside = so.inside; before = so.before; read = so.read; end = λ l. absurd (omega (arith, l, all)) }
