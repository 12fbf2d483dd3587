-- Bytes that a reader has left, taken one after the other; and bytes that a writer holds.
use Rattle.std.proofs.Common.{◌≡◌, refl, sym, ap, subst, ◌∙◌, List, [], ◌++◌, append_assoc, append-nil, ℕ, ◌+◌, take, drop, take-add, Option, Some, None}
use Rattle.std.specs.Io.KnownBytes.{Consumes, Appends}

pub consumes_none : (a : Option (List ℕ)) → Consumes a a []
consumes_none None = tt
consumes_none (Some xs) = refl

pub consumes_more : (a b c : Option (List ℕ)) (xs ys : List ℕ) → Consumes a b xs → Consumes b c ys → Consumes a c (xs ++ ys)
consumes_more None b c xs ys p q = tt
consumes_more (Some us) None c xs ys p q = absurd p
consumes_more (Some us) (Some vs) None xs ys p q = absurd q
consumes_more (Some us) (Some vs) (Some ws) xs ys p q = p ∙ ap (λ z. xs ++ z) q ∙ sym (append_assoc xs ys ws)

pub appends_none : (a : Option (List ℕ)) → Appends a a []
appends_none None = tt
appends_none (Some xs) = sym (append-nil xs)

pub appends_more : (a b c : Option (List ℕ)) (xs ys : List ℕ) → Appends a b xs → Appends b c ys → Appends a c (xs ++ ys)
appends_more None b c xs ys p q = tt
appends_more (Some us) None c xs ys p q = absurd p
appends_more (Some us) (Some vs) None xs ys p q = absurd q
appends_more (Some us) (Some vs) (Some ws) xs ys p q = q ∙ ap (λ z. z ++ ys) p ∙ append_assoc us xs ys

-- bytes read into a slice past those that had come before
pub read_past : (a b c : Option (List ℕ)) (l m : List ℕ) (n more : ℕ) → take n m ≡ take n l → Consumes a b (take n l) → Consumes b c (take more (drop n m))
    → Consumes a c (take (n + more) m)
read_past a b c l m n more same p q =
    subst (λ z. Consumes a c z) (ap (λ z. z ++ take more (drop n m)) (sym same) ∙ sym (take-add n more m)) (consumes_more a b c (take n l) (take more (drop n m)) p q)
