-- Known numbers, by what they are read as; and 0.0.
use Rattle.std.proofs.Common.{refl, rules, Some, None, ◌≡◌, Bool, true, false}
use lib.Ieee.{of_bits, of_int, binary64}
use Rattle.reference.specs.Scaling.{whole}
use Rattle.codes.specs.inner.Codes.{if_known}

pub zero_is : of_bits binary64 0 ≡ whole 0
unfolding of_bits of_int
zero_is = refl

pub some_known : {A : Type 0} (b : Bool) (a x : A) → if_known b a ≡ Some x → (b ≡ true) × (a ≡ x)
unfolding if_known
some_known true a x e = search rules
some_known false a x e = search rules

pub none_known : {A : Type 0} (b : Bool) (a : A) → if_known b a ≡ None → b ≡ false
unfolding if_known
none_known true a e = search rules
none_known false a e = refl
