-- Laws of `alike`, `any` and `all`, and of tests joined.
use Rattle.std.proofs.Common.{◌≡◌, refl, sym, ap, ap₂, ◌∙◌, List, [], ◌∷◌, ◌++◌, append-nil, Bool, true, false, cond, not, ◌&&◌, ◌||◌, ◌⊎◌, ◌≢◌, ⊎_elim, ℕ}
use Rattle.std.proofs.Common.{zero, suc, ◌+◌, ◌-◌, ◌≤◌, ◌<◌, min, arith, add-one, eq-eqb, ne_eqb, T, eqb, eqb→eq, leb, leb→le, length, get_or, take, drop}
use Rattle.std.proofs.Common.{length-drop, drop_of_length-le, drop-cons, drop-drop, take_all}
use lib.Dec.{eqb_refl}
use lib.Seq.{drop-nil, drop-append-le}
use Rattle.numbers.proofs.Lists.{below_or}
use Rattle.numbers.specs.Lists.{Each}
use Rattle.dsf.specs.Dsf.{Field, fixed, alike, any, all, fits}

-- ---- tests
pub T_is : {b : Bool} → T b → b ≡ true
T_is {b = true} h = refl
T_is {b = false} h = absurd h

pub T_of : {b : Bool} → b ≡ true → T b
T_of e = rw e tt

pub F_of : {b : Bool} → b ≡ false → T (not b)
F_of e = rw e tt

pub both : (a b : Bool) → T a → T b → T (a && b)
both true b p q = q
both false b p q = p

pub left : (a b : Bool) → T (a && b) → T a
left true b p = tt
left false b p = p

pub right : (a b : Bool) → T (a && b) → T b
right true b p = p
right false b p = absurd p

pub or_elim : {X : Type 0} (a b : Bool) → T (a || b) → (T a → X) → (T b → X) → X
or_elim true b p f g = f tt
or_elim false b p f g = g p

pub or_left : (a b : Bool) → T a → T (a || b)
or_left true b p = tt
or_left false b p = absurd p

pub or_right : (a b : Bool) → T b → T (a || b)
or_right true b p = tt
or_right false b p = p

pub pick : {A : Type 0} (b : Bool) (x y : A) → T b → cond b x y ≡ x
pick true x y h = refl
pick false x y h = absurd h

pub skip : {A : Type 0} (b : Bool) (x y : A) → (T b → ⊥) → cond b x y ≡ y
skip true x y h = absurd (h tt)
skip false x y h = refl

module _ {A : Type 0} where
  pub all_each : (f : A → Bool) (l : List A) → T (all f l) → Each (λ x. T (f x)) l
  unfolding all
  all_each f [] h = tt
  all_each f (x ∷ l) h = (left (f x) (all f l) h, all_each f l (right (f x) (all f l) h))

  pub any_elim : {X : Type 0} (f : A → Bool) (l : List A) → T (any f l) → Each (λ x. T (f x) → X) l → X
  unfolding any
  any_elim f [] h k = absurd h
  any_elim f (x ∷ l) h k = or_elim (f x) (any f l) h k.0 (λ q. any_elim f l q k.1)

  pub any_map : (f g : A → Bool) (l : List A) → ((x : A) → T (f x) → T (g x)) → T (any f l) → T (any g l)
  unfolding any
  any_map f g [] h p = p
  any_map f g (x ∷ l) h p = or_elim (f x) (any f l) p (λ q. or_left (g x) (any g l) (h x q)) (λ q. or_right (g x) (any g l) (any_map f g l h q))

  pub all_map : (f g : A → Bool) (l : List A) → ((x : A) → T (f x) → T (g x)) → T (all f l) → T (all g l)
  unfolding all
  all_map f g [] h p = tt
  all_map f g (x ∷ l) h p = both (g x) (all g l) (h x (left (f x) (all f l) p)) (all_map f g l h (right (f x) (all f l) p))

-- ---- alike

-- a beginning of what is alike
pub alike_begin : (p q v : List ℕ) → T (alike (p ++ q) v) → T (alike p v)
unfolding alike
alike_begin [] q v h = tt
alike_begin (x ∷ p) q [] h = tt
alike_begin (x ∷ p) q (y ∷ v) h = both (eqb x y) (alike p v) (left (eqb x y) (alike (p ++ q) v) h) (alike_begin p q v (right (eqb x y) (alike (p ++ q) v) h))

pub alike_begin_at : (n : ℕ) (p q v : List ℕ) → T (alike (drop n (p ++ q)) v) → T (alike (drop n p) v)
alike_begin_at zero p q v h = alike_begin p q v h
alike_begin_at (suc n) [] q v h = unfold alike in tt
alike_begin_at (suc n) (x ∷ p) q v h = alike_begin_at n p q v h

pub fits_begin : (p q : List ℕ) (f : Field) → T (fits (p ++ q) f) → T (fits p f)
unfolding fits
fits_begin p q f h = any_map _ _ f.values (λ v. alike_begin_at f.start p q v) h

pub alike_self : (v r : List ℕ) → T (alike (v ++ r) v)
unfolding alike
alike_self [] [] = tt
alike_self [] (x ∷ r) = tt
alike_self (x ∷ v) r = both (eqb x x) (alike (v ++ r) v) (eqb_refl x) (alike_self v r)

-- two stretches, one after the other
pub alike_append : (l v w : List ℕ) → T (alike l v) → T (alike (drop (length v) l) w) → T (alike l (v ++ w))
unfolding alike
alike_append l [] w h k = k
alike_append [] (y ∷ v) w h k = tt
alike_append (x ∷ l) (y ∷ v) w h k =
    both (eqb x y) (alike l (v ++ w)) (left (eqb x y) (alike l v) h) (alike_append l v w (right (eqb x y) (alike l v) h) k)

pub alike_after : (l v w : List ℕ) → T (alike l (v ++ w)) → T (alike (drop (length v) l) w)
unfolding alike
alike_after l [] w h = h
alike_after [] (y ∷ v) w h = tt
alike_after (x ∷ l) (y ∷ v) w h = alike_after l v w (right (eqb x y) (alike l (v ++ w)) h)

-- the same as a record, whose type names its lists
pub record Alike (l v : List ℕ) : Type 0 where
  pub is : T (alike l v)

pub seg : (p : List ℕ) {v w : List ℕ} (at n : ℕ) → length v ≡ n → Alike (drop at p) v → Alike (drop (at + n) p) w → Alike (drop at p) (v ++ w)
seg p {v} {w} at n e h k = record { is = alike_append (drop at p) v w h.is (rw (e, drop-drop n at p) k.is) }

-- a fixed field
pub fixed_alike : (p : List ℕ) (at : ℕ) (v : List ℕ) → T (fits p (fixed at v)) → Alike (drop at p) v
unfolding fits any
fixed_alike p at v h = record { is = or_elim (alike (drop at p) v) false h (λ q. q) (λ q. absurd q) }

pub alike_fixed : (p : List ℕ) (at : ℕ) (v : List ℕ) → T (alike (drop at p) v) → T (fits p (fixed at v))
unfolding fits any
alike_fixed p at v h = or_left (alike (drop at p) v) false h

-- as long as what it is alike to
pub alike_take : (l v : List ℕ) → length v ≤ length l → T (alike l v) → take (length v) l ≡ v
unfolding alike
alike_take l [] s h = refl
alike_take [] (y ∷ v) s h = absurd (omega arith)
alike_take (x ∷ l) (y ∷ v) s h =
    ap₂ (λ (a : ℕ) (m : List ℕ). a ∷ m) (eqb→eq x y (left (eqb x y) (alike l v) h)) (alike_take l v (omega arith) (right (eqb x y) (alike l v) h))

-- each with the other's rest
pub join : (p h : List ℕ) → T (alike p h) → p ++ drop (length p) h ≡ h ++ drop (length h) p
unfolding alike
join [] h k = sym (ap (λ (l : List ℕ). h ++ l) (drop-nil (length h)) ∙ append-nil h)
join (x ∷ p) [] k = append-nil (x ∷ p)
join (x ∷ p) (y ∷ h) k = ap₂ (λ (a : ℕ) (m : List ℕ). a ∷ m) (eqb→eq x y (left (eqb x y) (alike p h) k)) (join p h (right (eqb x y) (alike p h) k))

-- ---- a list made longer: a field that it holds whole stays as it is
pub alike_longer : (p q v : List ℕ) → length v ≤ length p → T (alike p v) → T (alike (p ++ q) v)
unfolding alike
alike_longer [] [] [] h k = tt
alike_longer [] (x ∷ q) [] h k = tt
alike_longer [] q (y ∷ v) h k = absurd (omega arith)
alike_longer (x ∷ p) q [] h k = tt
alike_longer (x ∷ p) q (y ∷ v) h k =
    both (eqb x y) (alike (p ++ q) v) (left (eqb x y) (alike p v) k) (alike_longer p q v (omega arith) (right (eqb x y) (alike p v) k))

pub alike_longer_at : (at : ℕ) (p q v : List ℕ) → at + length v ≤ length p → T (alike (drop at p) v) → T (alike (drop at (p ++ q)) v)
alike_longer_at at p q v h k = rw (drop-append-le at p q (omega arith)) (alike_longer (drop at p) q v (omega (arith, length-drop at p)) k)

-- a field ends within n bytes
unfoldable pub ends_by : ℕ → Field → Bool
ends_by n f = all (λ v. leb (f.start + length v) n) f.values

pub any_map_where : {A : Type 0} (f g h : A → Bool) (l : List A) → ((x : A) → T (h x) → T (f x) → T (g x)) → T (all h l) → T (any f l) → T (any g l)
unfolding any all
any_map_where f g h [] k a p = p
any_map_where f g h (x ∷ l) k a p =
    or_elim (f x) (any f l) p (λ q. or_left (g x) (any g l) (k x (left (h x) (all h l) a) q))
    (λ q. or_right (g x) (any g l) (any_map_where f g h l k (right (h x) (all h l) a) q))

pub all_map_where : {A : Type 0} (f g h : A → Bool) (l : List A) → ((x : A) → T (h x) → T (f x) → T (g x)) → T (all h l) → T (all f l) → T (all g l)
unfolding all
all_map_where f g h [] k a p = tt
all_map_where f g h (x ∷ l) k a p =
    both (g x) (all g l) (k x (left (h x) (all h l) a) (left (f x) (all f l) p)) (all_map_where f g h l k (right (h x) (all h l) a) (right (f x) (all f l) p))

pub fits_longer : (p q : List ℕ) (n : ℕ) → n ≤ length p → (f : Field) → T (ends_by n f) → T (fits p f) → T (fits (p ++ q) f)
unfolding fits ends_by
fits_longer p q n l f e h =
    any_map_where (alike (drop f.start p)) (alike (drop f.start (p ++ q))) (λ v. leb (f.start + length v) n) f.values
    (λ v m k. alike_longer_at f.start p q v (omega (arith, leb→le (f.start + length v) n m)) k) e h

-- ---- as the code tests them
pub alike_nil : (l : List ℕ) → alike l [] ≡ true
unfolding alike
alike_nil [] = refl
alike_nil (x ∷ l) = refl

-- two lists agree at the first n places
pub record Agree (l v : List ℕ) (n : ℕ) : Type 0 where
  pub is : alike l v ≡ alike (drop n l) (drop n v)

pub agree_none : {l v : List ℕ} → Agree l v 0
agree_none = record { is = refl }

module _ {l v : List ℕ} {n : ℕ} (a : Agree l v n) where
  module _ (h : n < length l) (k : n < length v) where
    apart : alike l v ≡ (eqb (get_or l n 0) (get_or v n 0) && alike (drop (n + 1) l) (drop (n + 1) v))
    unfolding alike
    apart = a.is ∙ rw (add-one, drop-cons l n 0 h, drop-cons v n 0 k) refl

    pub agree_more : get_or l n 0 ≡ get_or v n 0 → Agree l v (n + 1)
    agree_more e = record { is = apart ∙ rw (eq-eqb (get_or l n 0) (get_or v n 0) e) refl }

    pub differ : get_or l n 0 ≢ get_or v n 0 → false ≡ alike l v
    differ e = sym (apart ∙ rw (ne_eqb (get_or l n 0) (get_or v n 0) e) refl)

  pub agree_all : min (length l) (length v) ≤ n → true ≡ alike l v
  unfolding alike
  agree_all h =
      sym
      (a.is
      ∙ ⊎_elim (λ b. let e : drop n v ≡ [] = drop_of_length-le v {i = n} (omega arith) in rw e (alike_nil (drop n l)))
      (λ b. let e : drop n l ≡ [] = drop_of_length-le l {i = n} (omega arith) in rw e refl)
      (below_or n (length l)))

-- ---- what is left of a list from a place on, also from one past its end
pub rest_is : (l : List ℕ) (a m : ℕ) → m ≡ min a (length l) → take (length l - m) (drop m l) ≡ drop a l
rest_is l a m e = ⊎_elim (λ h. inside h) (λ h. past h) (below_or a (length l))
  where
    inside : a < length l → take (length l - m) (drop m l) ≡ drop a l
    inside h = let q : m ≡ a = omega arith in rw q (take_all (length l - a) (drop a l) (omega (arith, length-drop a l)))

    past : length l ≤ a → take (length l - m) (drop m l) ≡ drop a l
    past h = let q : m ≡ length l = omega arith in rw (q, drop_of_length-le l {i = a} h, drop_of_length-le l {i = length l} (omega arith)) (take_all (length l - length l) [] (omega arith))

-- so many of them
pub piece_is : (l : List ℕ) (a s m n : ℕ) → m ≡ min a (length l) → n ≡ min (a + s) (length l) → take (n - m) (drop m l) ≡ take s (drop a l)
piece_is l a s m n e f = ⊎_elim (λ h. inside h (below_or (length l) (a + s))) (λ h. past h) (below_or a (length l))
  where
    inside : a < length l → (length l < a + s) ⊎ (a + s ≤ length l) → take (n - m) (drop m l) ≡ take s (drop a l)
    inside h k =
        let q : m ≡ a = omega arith in
        let size = length-drop a l in
        rw q (⊎_elim (λ x. take_all (n - a) (drop a l) (omega arith) ∙ sym (take_all s (drop a l) (omega arith))) (λ y. let z : n - a ≡ s = omega arith in ap (λ (i : ℕ). take i (drop a l)) z) k)

    past : length l ≤ a → take (n - m) (drop m l) ≡ take s (drop a l)
    past h =
        let q : m ≡ length l = omega arith in
        rw (q, drop_of_length-le l {i = a} h, drop_of_length-le l {i = length l} (omega arith)) (take_all (n - length l) [] (omega arith) ∙ sym (take_all s [] (omega arith)))
