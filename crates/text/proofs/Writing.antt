-- Texts printed one after another.
use Rattle.std.proofs.Common.{◌≡◌, ◌∙◌, List, ◌++◌, ℕ}
use Rattle.text.specs.Text.{Printed}
use Rattle.text.specs.inner.Writing.{Prints}
use Rattle.text.specs.declared.putting.Text.{Text}
use Rattle.text.proofs.Printing.{then}

pub both : {s t : List ℕ} {a b c : Text} → Prints s a b → Prints t b c → Prints (s ++ t) a c
both p q =
    record {
      same_reference = q.same_reference ∙ p.same_reference;
      same_length = q.same_length ∙ p.same_length;
      printed = then p.printed q.printed;
    }

-- a slice that ends as what it was lent as
pub ended : {t old new mid : List ℕ} {at n : ℕ} → new ≡ mid → Printed t old at mid n → Printed t old at new n
ended e p = rw e p
