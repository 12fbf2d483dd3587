use Rattle.std.proofs.Common.{ℕ, List, sym, ap, ◌++◌, drop, ◌*◌, arith, length, take, ◌≡◌, length-take-le}
use Rattle.reference.specs.Promises.{packed}
use Rattle.output.proofs.Boxes.{packed_is}
use Rattle.output.proofs.pack.Goals as goal

pub returns : goal.returns
unfolding packed
returns c =
    let a = c.args in
    let n = c.min-n.result in
    let short : length (take n a.samples.now) ≡ n = length-take-le n a.samples.now (omega arith) in
    let room : length (take (3 * n) a.bytes.now) ≡ 3 * n = length-take-le (3 * n) a.bytes.now (omega arith) in
    record { written = rw (sym c.min-n.ensures) (ap (λ (l : List ℕ). l ++ drop (3 * n) a.bytes.now) (packed_is (take n a.samples.now) n short room c.store.ensures)) }
