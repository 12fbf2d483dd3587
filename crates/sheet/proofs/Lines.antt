-- Lines printed by `Text`, one after another.
use Rattle.std.proofs.Common.{◌≡◌, refl, sym, List, [], ◌∷◌, ◌++◌, append-nil, ℕ, ◌+◌, ◌-◌, arith, replicate, zero-add, add-zero, add-one, take-append-drop}
use Rattle.columns.specs.Columns.{column, cell}
use Rattle.numbers.specs.Lists.{tabulate}
use Rattle.text.specs.Text.{joined, with_text, printed}
use Rattle.text.specs.inner.Writing.{Prints}
use Rattle.text.specs.declared.putting.Text.{Text}
use Rattle.text.proofs.Printing as printing
use Rattle.text.proofs.Printing.{joined_last}
use Rattle.text.proofs.Writing.{both}

pub nothing : {a : Text} → Prints [] a a
unfolding with_text
nothing {a} = record { same_reference = refl; same_length = refl; printed = record { written = rw (add-zero a.at) (sym (take-append-drop a.at a.out.now)); after = sym (add-zero a.at) } }

pub line : (ts : List (List ℕ)) {a b : Text} → Prints (joined (ts ++ ((10 ∷ []) ∷ []))) a b → Prints (printed ts) a b
line ts p = record { same_reference = p.same_reference; same_length = p.same_length; printed = printing.line ts p.printed }

-- blanks alone in a column
pub blank : (w : ℕ) {a b : Text} → Prints (replicate w 32) a b → Prints (column (cell w [])) a b
unfolding column
blank w p = let e : w - 0 ≡ w = omega arith in rw (append-nil, e) p

-- lines of a function, and one more
pub more : (f : ℕ → List ℕ) (n : ℕ) {t : List ℕ} {a b c : Text} → Prints (joined (tabulate f 0 n)) a b → Prints t b c → t ≡ f n → Prints (joined (tabulate f 0 (n + 1))) a c
unfolding tabulate
more f n p q e = rw (add-one, zero-add n, ← joined_last (tabulate f 0 n) (f n), ← e) (both p q)
