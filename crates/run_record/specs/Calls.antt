-- Per-frame counts that may be lent.
use Rattle.std.specs.Prelude.{List, [], ℕ, Option, option_map, unwrap_or, ◌⊎◌}
use Rattle.std.proofs.Common.{inl, inr, MutBor}

-- a list that may be lent, at the call; where there is none, no numbers
abbrev pub listed : Option (MutBor (List ℕ)) → List ℕ
listed counts = unwrap_or (option_map (λ r. r.now) counts) []

-- and at the return, as a contract sees an `Option` of a `&mut` there: nothing, or the list
abbrev pub left : Unit {0} ⊎ ((MutBor (List ℕ) × Unit {0}) ⊎ ⊥) → List ℕ
left (inl nothing) = []
left (inr (inl list)) = list.0.now
left (inr (inr never)) = elim never [ ]
