-- Texts that were put from the start of a buffer on: they are its first bytes, which are passed on.
use Rattle.std.proofs.Common.{◌≡◌, sym, ap, ap₂, subst, ◌∙◌, List, [], ◌∷◌, ◌++◌, append_assoc, append-nil, ℕ, ◌+◌, zero-add, length, take, drop, Option}
use lib.Seq.{take-append_seam}
use Rattle.std.specs.Io.KnownBytes.{Appends}
use Rattle.text.specs.Text.{joined, with_text, Printed}

pub printed_first : {t old new : List ℕ} {n : ℕ} → Printed t old 0 new n → take n new ≡ t
unfolding with_text
printed_first {t} {old} {new} {n} p = ap₂ take (p.after ∙ zero-add (length t)) p.written ∙ take-append_seam t (drop (0 + length t) old)

pub wrote_text : {t old new : List ℕ} {n : ℕ} (held held' : Option (List ℕ)) → Printed t old 0 new n → Appends held held' (take n new) → Appends held held' t
wrote_text {t} {old} {new} {n} held held' p w = subst (Appends held held') (printed_first p) w

-- one text more
pub joined_more : (ts : List (List ℕ)) (t : List ℕ) → joined (ts ++ (t ∷ [])) ≡ joined ts ++ t
unfolding joined
joined_more [] t = append-nil t
joined_more (x ∷ ts) t = ap (λ z. x ++ z) (joined_more ts t) ∙ sym (append_assoc x (joined ts) t)
