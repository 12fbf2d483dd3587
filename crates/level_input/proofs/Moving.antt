-- The frames of a buffer moved on.
use Rattle.std.proofs.Common.{◌≡◌, refl, List, ℕ, ◌-◌, ◌*◌, zero-add, arith, length, take, drop, length-drop, take_all}
use Rattle.std.specs.List.{copy_within}
use Rattle.level_input.specs.inner.Moved.{moved_on}

pub all_moved : (d : List ℕ) (size : ℕ) → length d ≡ 3 * size → copy_within d size (length d) 0 ≡ moved_on size d
unfolding moved_on
all_moved d size e =
    let k : length d - size ≡ 2 * size = omega arith in
    let all : take (2 * size) (drop size d) ≡ drop size d = take_all (2 * size) (drop size d) (omega (arith, length-drop size d)) in
    rw (k, all, zero-add (2 * size)) refl
