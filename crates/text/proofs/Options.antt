-- Nothing and something.
use Rattle.std.proofs.Common.{◌≡◌, Option, Some, None}
use Rattle.std.proofs.lemmas.Option.{none-some}

-- nothing is something
pub no_some : {X T : Type 0} {x : X} → ◌≡◌ {A = Option X} None (Some x) → T
no_some {x = x} e = absurd (none-some x e)

pub some_is : {X : Type 0} {x y : X} → ◌≡◌ {A = Option X} (Some x) (Some y) → x ≡ y
some_is e = cc
