-- Laws of `tabulate` and `total`: equal stretches, stretches joined, the element at a place; and of a list that is
-- filled from a place on.
use Rattle.std.proofs.Common.{◌≡◌, refl, ap, ap₂, sym, ◌∙◌, List, [], ◌∷◌, ◌++◌, append_assoc, append-nil, Bool, true, false, cond, not, ◌⊎◌, ◌≢◌, inl, inr}
use Rattle.std.proofs.Common.{⊎_elim, ℕ, zero, suc, ◌+◌, ◌-◌, ◌*◌, ◌≤◌, ◌<◌, mul-le-mul_right, arith, T, leb, leb→le, length, get_or, set, length-set}
use Rattle.std.proofs.Common.{length-append, replicate, ext_get_or, get_or-set_same, get_or-set_other}
use lib.Dec.{nleb→lt}
use lib.ListN.{get_or-append, length-replicate, get_or-replicate, get_or-eq_default}
use lib.Seq.{get_or_at}
use Rattle.numbers.specs.Lists.{tabulate, total, count}
use Rattle.numbers.specs.inner.Lists.{Held, Written}

-- the k-th stretch of so many is within n of them
pub part_end : (k n size : ℕ) → k < n → k * size + size ≤ n * size
part_end k n size h = omega (arith, mul-le-mul_right size h)

-- what stands at a place of a list does not go by the default
pub get_d_any : {A : Type 0} (l : List A) (i : ℕ) (d e : A) → i < length l → get_or l i d ≡ get_or l i e
get_d_any [] i d e h = absurd (omega arith)
get_d_any (x ∷ l) zero d e h = refl
get_d_any (x ∷ l) (suc i) d e h = get_d_any l i d e (omega arith)

module _ {A : Type 0} where
  -- f from a on and g from b on agree at n places
  pub tabulate_same : (f g : ℕ → A) (a b n : ℕ) → ((k : ℕ) → k < n → f (a + k) ≡ g (b + k)) → tabulate f a n ≡ tabulate g b n
  unfolding tabulate
  tabulate_same f g a b zero h = refl
  tabulate_same f g a b (suc n) h = ap₂ (λ l x. l ++ (x ∷ [])) (tabulate_same f g a b n (λ k l. h k (omega arith))) (h n (omega arith))

  pub tabulate_join : (f : ℕ → A) (a m n : ℕ) → tabulate f a (m + n) ≡ tabulate f a m ++ tabulate f (a + m) n
  unfolding tabulate
  tabulate_join f a m zero =
      let e : m + zero ≡ m = omega arith in
      rw (e, append-nil)
  tabulate_join f a m (suc n) =
      let e : m + suc n ≡ suc (m + n) = omega arith in
      let i : a + m + n ≡ a + (m + n) = omega arith in
      rw (e, tabulate_join f a m n, append_assoc, i)

  pub length_tabulate : (f : ℕ → A) (a n : ℕ) → length (tabulate f a n) ≡ n
  unfolding tabulate
  length_tabulate f a zero = refl
  length_tabulate f a (suc n) = length-append (tabulate f a n) (f (a + n) ∷ []) ∙ omega (arith, length_tabulate f a n)

  pub get_d_tabulate : (f : ℕ → A) (a n i : ℕ) (d : A) → i < n → get_or (tabulate f a n) i d ≡ f (a + i)
  unfolding tabulate
  get_d_tabulate f a zero i d l = absurd (omega arith)
  get_d_tabulate f a (suc n) i d l = go (leb n i) (leb→le n i) (nleb→lt n i) (get_d_tabulate f a n i d)
    where
      go : (b : Bool) → (T b → n ≤ i) → (T (not b) → i < n) → (i < n → get_or (tabulate f a n) i d ≡ f (a + i)) → get_or (tabulate f a n ++ (f (a + n) ∷ [])) i d ≡ f (a + i)
      go true p q r =
          let e : i ≡ n = omega (arith, p tt) in
          rw e (get_or_at (tabulate f a n) (f (a + n)) [] d n (length_tabulate f a n))
      go false p q r = get_or-append (tabulate f a n) (f (a + n) ∷ []) d i (omega (arith, q tt, length_tabulate f a n)) ∙ r (q tt)

  -- a list that has f a, f (a + 1), .. at its places
  pub is_tabulate : (f : ℕ → A) (a n : ℕ) (d : A) (l : List A) → length l ≡ n → ((i : ℕ) → i < n → get_or l i d ≡ f (a + i)) → l ≡ tabulate f a n
  is_tabulate f a n d l e h =
      ext_get_or d l (tabulate f a n) (e ∙ sym (length_tabulate f a n)) (λ i m. h i (omega arith) ∙ sym (get_d_tabulate f a n i d (omega arith)))

  pub tabulate_constant : (f : ℕ → A) (a n : ℕ) (x : A) → ((k : ℕ) → k < n → f (a + k) ≡ x) → tabulate f a n ≡ replicate n x
  tabulate_constant f a n x h =
      sym (is_tabulate f a n x (replicate n x) (length-replicate n x) (λ i m. get_or-replicate n i x x m ∙ sym (h i m)))

pub total_same : (f g : ℕ → ℕ) (a b n : ℕ) → ((k : ℕ) → k < n → f (a + k) ≡ g (b + k)) → total f a n ≡ total g b n
unfolding total
total_same f g a b zero h = refl
total_same f g a b (suc n) h = omega (arith, total_same f g a b n (λ k l. h k (omega arith)), h n (omega arith))

pub total_join : (f : ℕ → ℕ) (a m n : ℕ) → total f a (m + n) ≡ total f a m + total f (a + m) n
unfolding total
total_join f a m zero =
    let e : m + zero ≡ m = omega arith in
    rw e (omega arith)
total_join f a m (suc n) =
    let e : m + suc n ≡ suc (m + n) = omega arith in
    let i : a + m + n ≡ a + (m + n) = omega arith in
    rw (e, i) (omega (arith, total_join f a m n))

pub total_none : (f : ℕ → ℕ) (a n : ℕ) → ((k : ℕ) → k < n → f (a + k) ≡ 0) → total f a n ≡ 0
unfolding total
total_none f a zero h = refl
total_none f a (suc n) h = omega (arith, total_none f a n (λ k l. h k (omega arith)), h n (omega arith))

-- ---- a list filled from its front, or from a place on

at_most_one : (b : Bool) → cond b 1 0 ≤ 1
at_most_one true = omega arith
at_most_one false = omega arith

pub count_few : (p : ℕ → Bool) (a n : ℕ) → count p a n ≤ n
unfolding total
count_few p a zero = omega arith
count_few p a (suc n) = omega (arith, count_few p a n, at_most_one (p (a + n)))

pub below_or : (m n : ℕ) → (m < n) ⊎ (n ≤ m)
below_or m n = go (leb n m) (leb→le n m) (nleb→lt n m)
  where
    go : (b : Bool) → (T b → n ≤ m) → (T (not b) → m < n) → (m < n) ⊎ (n ≤ m)
    go true p q = inr (p tt)
    go false p q = inl (q tt)

module _ {A : Type 0} {d : A} {f : ℕ → A} {a : ℕ} {l : List A} where
  pub held_none : Held d f a 0 l
  held_none = record { is = λ k m. absurd (omega arith) }

  pub held_more : {n : ℕ} {v : A} → Held d f a n l → n < length l → v ≡ f (a + n) → Held d f a (n + 1) (set l n v)
  held_more {n} {v} h m e =
      record {
        is = λ k s. ⊎_elim (λ b. get_or-set_other l n k v d (omega arith) ∙ h.is k b) (λ b.
            let i : k ≡ n = omega arith in
            rw i (get_or-set_same l n v d m ∙ e)) (below_or k n);
      }

  -- fewer places
  pub held_some : {n : ℕ} (m : ℕ) → m ≤ n → Held d f a n l → Held d f a m l
  held_some m s h = record { is = λ k q. h.is k (omega arith) }

module _ {A : Type 0} {d : A} {place : ℕ → ℕ} {f : ℕ → A} {old : List A} where
  pub written_none : Written d place f 0 old old
  written_none = record { same = refl; done = λ i l. absurd (omega arith); kept = λ j h. refl }

  -- place n too, which is none of those before
  pub written_more : {new : List A} {n j : ℕ} {v : A} → Written d place f n old new → j ≡ place n → ((i : ℕ) → i < n → place i ≢ j) → j < length old → v ≡ f n
      → Written d place f (n + 1) old (set new j v)
  written_more {new} {n} {j} {v} w p other l e =
      record {
        same = length-set new j v ∙ w.same;
        done = λ i m. ⊎_elim (λ b. get_or-set_other new j (place i) v d (other i b) ∙ w.done i b) (λ b.
            let q : i ≡ n = omega arith in
            rw (q, ← p) (get_or-set_same new j v d (omega (arith, w.same)) ∙ e)) (below_or i n);
        kept = λ k h. get_or-set_other new j k v d (λ q. h n (omega arith) (q ∙ p)) ∙ w.kept k (λ i m. h i (omega arith));
      }

  -- the next places after them
  pub written_then : {q : ℕ → ℕ} {g : ℕ → A} {m s : ℕ} {mid new : List A} → Written d place f m old mid → Written d q g s mid new → ((i : ℕ) → i < s → q i ≡ place (m + i))
      → ((i k : ℕ) → i < m → k < s → place i ≢ q k) → ((i : ℕ) → i < s → g i ≡ f (m + i)) → Written d place f (m + s) old new
  written_then {m = m} {s = s} {new = new} u w p other e =
      record {
        same = w.same ∙ u.same;
        done = λ i h. ⊎_elim (λ b. w.kept (place i) (λ k t. other i k b t) ∙ u.done i b) (λ b.
            let z : m + (i - m) ≡ i = omega arith in
            let l : i - m < s = omega arith in
            rw z at (ap (λ (x : ℕ). get_or new x d) (sym (p (i - m) l)) ∙ w.done (i - m) l ∙ e (i - m) l)) (below_or i m);
        kept = λ j h. w.kept j (λ i t z. h (m + i) (omega arith) (z ∙ p i t)) ∙ u.kept j (λ i t. h i (omega arith));
      }

  pub written_as : {g : ℕ → A} {n : ℕ} {new : List A} → Written d place g n old new → ((i : ℕ) → i < n → g i ≡ f i) → Written d place f n old new
  written_as w e = record { same = w.same; done = λ i l. w.done i l ∙ e i l; kept = w.kept }

-- the whole list
pub written_all : {A : Type 0} {d : A} {f : ℕ → A} {old new : List A} → length new ≡ length old → ((i : ℕ) → i < length old → get_or new i d ≡ f i) → Written d (λ i. i) f (length old) old new
written_all {d = d} {old = old} {new = new} e h =
    record {
      same = e;
      done = h;
      kept = λ j k. ⊎_elim (λ b. absurd (k j b refl)) (λ b. get_or-eq_default new d {n = j} (omega (arith, e)) ∙ sym (get_or-eq_default old d {n = j} b)) (below_or j (length old));
    }
