-- Laws of filled boxes. A right value spoils nothing, wherever it goes: no law needs that two places differ.
use Rattle.std.proofs.Common.{◌≡◌, refl, sym, ap, ap₂, ◌∙◌, ◌⊎◌, inl, inr, ⊎_elim, List, ℕ, ◌+◌, ◌*◌, ◌/◌, ◌%◌, ◌^◌, ◌≤◌, ◌<◌, mod-lt, div-add-mod'}
use Rattle.std.proofs.Common.{div-lt_iff_lt-mul, eq-or-lt_of_le, arith, ℤ, pos, negsuc, w32, SFits, to_z, of_z, to_z-of_z, length, get_or, set, mul_comm}
use Rattle.std.proofs.Common.{mul-le-mul_left}
use lib.Arith.{digits_lt, digits_div, digits_mod}
use lib.Signed.{mag}
use Rattle.numbers.specs.Lists.{tabulate}
use Rattle.numbers.specs.inner.Lists.{Held, Written}
use Rattle.numbers.proofs.Lists.{below_or, is_tabulate, get_d_tabulate, length_tabulate, written_none, written_more}
use Rattle.reference.specs.Output.{low24, s24le}
use Rattle.output.specs.inner.Fills.{Fills, Layout, items, byte_layout, byte_of_three, Put, place_of, Drawn, Room, parts_of}

same_or : (a b : ℕ) → (a ≡ b) ⊎ (a ≡ b → ⊥)
same_or a b = ⊎_elim (λ l. inr (λ e. omega arith)) (λ m. ⊎_elim (λ e. inl (sym e)) (λ l. inr (λ e. omega arith)) (eq-or-lt_of_le m)) (below_or a b)

module _ {A : Type 0} {d : A} {D : ℕ → A} {row col : ℕ → ℕ} where
  pub no_rows : {lo hi l r : ℕ} {x : List A} → hi ≤ lo → Fills d D row col lo hi l r x x
  no_rows e = record { same = refl; kept = λ i h. h; done = λ i a b p q. absurd (omega arith) }

  pub no_cols : {lo hi n : ℕ} {x : List A} → Fills d D row col lo hi n n x x
  no_cols = record { same = refl; kept = λ i h. h; done = λ i a b p q. absurd (omega arith) }

  -- two boxes over each other, and side by side
  pub rows : {lo mid hi l r : ℕ} {x y z : List A} → Fills d D row col lo mid l r x y → Fills d D row col mid hi l r y z → Fills d D row col lo hi l r x z
  rows {mid = mid} f g =
      record {
        same = g.same ∙ f.same;
        kept = λ i h. g.kept i (f.kept i h);
        done = λ i a b p q. ⊎_elim (λ m. g.kept i (f.done i a m p q)) (λ m. g.done i m b p q) (below_or (row i) mid);
      }

  pub cols : {lo hi l mid r : ℕ} {x y z : List A} → Fills d D row col lo hi l mid x y → Fills d D row col lo hi mid r y z → Fills d D row col lo hi l r x z
  cols {mid = mid} f g =
      record {
        same = g.same ∙ f.same;
        kept = λ i h. g.kept i (f.kept i h);
        done = λ i a b p q. ⊎_elim (λ m. g.kept i (f.done i a b p m)) (λ m. g.done i a b m q) (below_or (col i) mid);
      }

module _ {A : Type 0} (o : Layout A) (some : 0 < o.width) (S : ℕ → ℕ → ℤ) {ch : ℕ} where
  -- one sample
  pub one_sample : {n c : ℕ} {v : ℤ} {x y : List A} → c < ch → v ≡ S c n → Put o (n * ch + c) v x y → Drawn o S ch n (n + 1) c (c + 1) x y
  one_sample {n} {c} {v} {x} {y} m e p =
      record {
        same = p.same;
        kept = λ j h. ⊎_elim (here j) (λ away. p.kept j (λ b l e. away (item_of j b l e)) ∙ h) (same_or (j / o.width) (n * ch + c));
        done = λ j a b q r.
            let row : j / o.width / ch ≡ n = omega arith in
            let col : j / o.width % ch ≡ c = omega arith in
            here j (sym (div-add-mod' (j / o.width) ch) ∙ rw (row, col));
      }
    where
      item_of : (j b : ℕ) → b < o.width → j ≡ o.width * (n * ch + c) + b → j / o.width ≡ n * ch + c
      item_of j b l e = ap (λ (k : ℕ). k / o.width) (e ∙ ap (λ (k : ℕ). k + b) (mul_comm o.width (n * ch + c))) ∙ digits_div (n * ch + c) l

      here : (j : ℕ) → j / o.width ≡ n * ch + c → get_or y j o.past ≡ place_of o ch S j
      here j h =
          let split : o.width * (n * ch + c) + j % o.width ≡ j = ap (λ (k : ℕ). k + j % o.width) (mul_comm o.width (n * ch + c) ∙ ap (λ (k : ℕ). k * o.width) (sym h)) ∙ div-add-mod' j o.width in
          ap (λ (k : ℕ). get_or y k o.past) (sym split)
          ∙ p.done (j % o.width) (mod-lt j some)
          ∙ ap (λ (z : ℤ). o.part z (j % o.width)) (e ∙ sym (ap₂ S (digits_mod n m) (digits_div n m)))
          ∙ ap (λ (k : ℕ). o.part (S (k % ch) (k / ch)) (j % o.width)) (sym h)

  -- the whole box is the whole list
  pub all_samples : {n : ℕ} {x y : List A} → 0 < ch → Room o (n * ch) x → Drawn o S ch 0 n 0 ch x y → y ≡ parts_of o (tabulate (λ i. S (i % ch) (i / ch)) 0 (n * ch))
  unfolding parts_of
  all_samples {n} {x} {y} p e f =
      let zs = tabulate (λ i. S (i % ch) (i / ch)) 0 (n * ch) in
      let size : length zs ≡ n * ch = length_tabulate (λ i. S (i % ch) (i / ch)) 0 (n * ch) in
      is_tabulate _ 0 (o.width * length zs) o.past y (f.same ∙ e ∙ ap (λ (k : ℕ). o.width * k) (sym size)) (λ j l.
      let z : 0 + j ≡ j = omega arith in
      let w : 0 + j / o.width ≡ j / o.width = omega arith in
      let inside : j / o.width < n * ch = (div-lt_iff_lt-mul some).1 (rw (size, mul_comm o.width (n * ch)) at l) in
      let g : get_or zs (j / o.width) (pos 0) ≡ S (j / o.width % ch) (j / o.width / ch) = get_d_tabulate (λ i. S (i % ch) (i / ch)) 0 (n * ch) (j / o.width) (pos 0) inside ∙ rw w in
      rw (z, g) (f.done j (omega arith) ((div-lt_iff_lt-mul p).1 inside) (omega arith) (mod-lt (j / o.width) p)))

-- the places of a sample are within those of all
pub within : (w n m k c : ℕ) {ch all : ℕ} → w * ((n + m) * ch) ≤ all → k < m → c < ch → w * ((n + k) * ch + c) + w ≤ all
within w n m k c {ch} h l q =
    let inside : (n + k) * ch + c < (n + m) * ch = digits_lt (omega arith) q in
    let most : w * ((n + k) * ch + c + 1) ≤ w * ((n + m) * ch) = mul-le-mul_left w (omega arith) in
    omega arith

-- ---- the two forms

module _ (v : ℤ) (fits : SFits w32 v) where
  -- the bits of a sample, as a number
  abbrev bits : ℕ
  bits = of_z w32 (to_z w32 (of_z w32 v))

  low : bits % 2 ^ 24 ≡ low24 v
  unfolding low24
  low = rw (to_z-of_z fits) (go v fits.sfits)
    where
      go : (z : ℤ) → mag z < 2 ^ 31 → of_z w32 z % 2 ^ 24 ≡ low24 z
      go (pos n) m = refl
      go (negsuc n) m = omega arith

  pub three_bits : (bits % 256 ≡ byte_of_three v 0) × (bits / 256 % 256 ≡ byte_of_three v 1) × (bits / 65536 % 256 ≡ byte_of_three v 2)
  unfolding byte_of_three
  three_bits = (omega (arith, low), omega (arith, low), omega (arith, low))

-- the three bytes of a sample, set one by one
pub three_bytes : (x : List ℕ) (k : ℕ) (v : ℤ) → 3 * k + 3 ≤ length x
    → Put byte_layout k v x (set (set (set x (3 * k) (byte_of_three v 0)) (3 * k + 1) (byte_of_three v 1)) (3 * k + 2) (byte_of_three v 2))
three_bytes x k v room = set_at (3 * k + 2) (set_at (3 * k + 1) (set_at (3 * k) written_none (omega arith) (omega arith)) refl (omega arith)) refl (omega arith)
  where
    set_at : {b : ℕ} {y : List ℕ} (j : ℕ) → Written 0 (λ b. 3 * k + b) (byte_of_three v) b x y → j ≡ 3 * k + b → b < 3
        → Written 0 (λ b. 3 * k + b) (byte_of_three v) (b + 1) x (set y j (byte_of_three v b))
    set_at j w e l = written_more w e (λ i m. omega arith) (omega (arith, w.same)) refl

pub written_items : (zs : List ℤ) → parts_of items zs ≡ zs
unfolding parts_of
written_items zs =
    let e : 1 * length zs ≡ length zs = omega arith in
    rw e (sym (is_tabulate (λ j. get_or zs (j / 1) (pos 0)) 0 (length zs) (pos 0) zs refl (λ i l.
    let z : (0 + i) / 1 ≡ i = omega arith in
    rw z refl)))

pub written_bytes : (zs : List ℤ) → parts_of byte_layout zs ≡ s24le zs
unfolding parts_of s24le byte_of_three
written_bytes zs = refl

-- one channel of bytes is the samples packed
pub packed_is : (zs : List ℤ) (n : ℕ) {x y : List ℕ} → length zs ≡ n → length x ≡ 3 * n
    → ((S : ℕ → ℕ → ℤ) → Held (pos 0) (S 0) 0 (length zs) zs → Drawn byte_layout S 1 0 (0 + length zs) 0 (0 + 1) x y) → y ≡ s24le zs
packed_is zs n {x} {y} e room h =
    let S = λ (c i : ℕ). get_or zs i (pos 0) in
    let drawn = h S (record { is = λ k l. let z : 0 + k ≡ k = omega arith in rw z refl }) in
    let size : length x ≡ 3 * ((0 + length zs) * 1) = omega arith in
    let whole : (0 + length zs) * 1 ≡ length zs = omega arith in
    all_samples byte_layout (omega arith) S (omega arith) size drawn
    ∙ ap (parts_of byte_layout) (rw whole (sym (is_tabulate (λ i. S (i % 1) (i / 1)) 0 (length zs) (pos 0) zs refl (λ i l.
    let z : (0 + i) / 1 ≡ i = omega arith in
    rw z refl))))
    ∙ written_bytes zs
