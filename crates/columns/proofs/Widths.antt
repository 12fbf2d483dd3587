-- Laws of columns: what is put after its blanks, and entries that fit.
use Rattle.std.proofs.Common.{◌≡◌, refl, Bool, true, false, ◌||◌, List, [], ◌∷◌, ℕ, ◌+◌, ◌-◌, ◌≤◌, arith, ltb-false, le-ltb, ltb, ℤ, pos, negsuc, nat_abs}
use Rattle.std.proofs.Common.{length, replicate, length-append, Some, None}
use lib.Signed.{lt_z}
use mir.Val.{bool_byte}
use lib.ListN.{length-replicate}
use Rattle.text.specs.Text.{text, decimal, signed_decimal}
use Rattle.text.specs.inner.Writing.{Prints}
use Rattle.text.specs.declared.putting.Text.{Text}
use Rattle.text.proofs.Writing.{both}
use Rattle.columns.specs.Columns.{Cell, cell, column, level_text, too_wide}

-- a text of k characters after its blanks
pub in_column : {w k : ℕ} {t : List ℕ} {a b c : Text} → k ≡ length t → length t ≤ w → Prints (replicate (w - k) 32) a b → Prints t b c → Prints (column (cell w t)) a c
unfolding column
in_column e h p q = rw e at (both p q)

-- it ends where the column does
pub column_end : {w : ℕ} (t : List ℕ) {a b : Text} → Prints (column (cell w t)) a b → length t ≤ w → b.at ≡ a.at + w
unfolding column
column_end {w} t p h = omega (arith, p.printed.after, length-append (replicate {A = ℕ} (w - length t) 32) t, length-replicate {A = ℕ} (w - length t) 32)

pub no_level : level_text None ≡ 45 ∷ []
unfolding level_text text
no_level = refl

pub some_level : (z : ℤ) → level_text (Some z) ≡ signed_decimal z
unfolding level_text
some_level z = refl

-- the digits of the size, and one character more below 0
pub with_sign : (z : ℤ) → length (decimal (nat_abs z)) + bool_byte (lt_z z (pos 0)) ≡ length (signed_decimal z)
unfolding signed_decimal
with_sign (pos n) = rw (le-ltb n 0 (omega arith)) (omega arith)
with_sign (negsuc n) = let e : bool_byte true ≡ 1 = refl in omega arith

pub or_left : (a b : Bool) → a || b ≡ false → (a ≡ false) × (b ≡ false)
or_left true b e = let z : ◌≡◌ {A = ℕ} 0 1 = cc in absurd (omega arith)
or_left false b e = (refl, e)

pub entry_fits : (e : Cell) (es : List Cell) → too_wide (e ∷ es) ≡ false → (length e.shown ≤ e.width) × (too_wide es ≡ false)
unfolding too_wide
entry_fits e es h = let p = or_left (ltb e.width (length e.shown)) (too_wide es) h in (ltb-false e.width (length e.shown) p.0, p.1)
