use Rattle.std.proofs.Common.{rules, arith, ◌≡◌, ◌+◌, ◌*◌, ◌<◌, ◌/◌, length, get_or, pos, ap, ◌∙◌, zero-add, zero-mul, div-mul-le_self, ℕ, ℤ, w32, to_z, of_z}
use lib.Arith.{digits_lt}
use Rattle.numbers.specs.Extremes.{lesser, greater, picked, extreme}
use Rattle.channel_levels.proofs.Picks.{one_more}
use Rattle.channel_levels.proofs.extremes_of.Goals as goal

pub loop-k-init : goal.loop-k-init
unfolding picked
loop-k-init c =
    let e : c.args.c ≡ 0 * c.args.ch + c.args.c = rw (zero-mul c.args.ch, zero-add c.args.c) in
    let own : to_z w32 (of_z w32 (get_or c.args.samples.now c.args.c (pos 0))) ≡ get_or c.args.samples.now c.args.c (pos 0) = search rules in
    let s = own ∙ ap (λ k. get_or c.args.samples.now k (pos 0)) e in
    (s, s)

-- the place that is read
inside : (c : goal.In-loop-k) → c.loop-k.k * c.args.ch + c.args.c < length c.args.samples.now
inside c =
    let m = length c.args.samples.now in
    let i = digits_lt {q = c.loop-k.k} {m = m / c.args.ch} c.loop-k-test.true c.requires.0 in
    omega (arith, i, div-mul-le_self m c.args.ch)

pub overflow_mul-s : goal.overflow_mul-s
overflow_mul-s c = let i = inside c in search rules

pub overflow_add-s : goal.overflow_add-s
overflow_add-s c = let i = inside c in search rules

pub offset_bounds-samples-k : goal.offset_bounds-samples-k
offset_bounds-samples-k c = let i = inside c in search rules

pub bounds-samples-k : goal.bounds-samples-k
bounds-samples-k c = inside c

pub loop-k-preserved : goal.loop-k-preserved
unfolding lesser greater
loop-k-preserved c =
    let at : ℕ → ℤ = λ k. get_or c.args.samples.now (k * c.args.ch + c.args.c) (pos 0) in
    let own_low : to_z w32 (of_z w32 c.min-low.result) ≡ c.min-low.result = search rules in
    let own_high : to_z w32 (of_z w32 c.max-high.result) ≡ c.max-high.result = search rules in
    let low : c.min-low.result ≡ lesser c.loop-k.low (at c.loop-k.k) = search rules in
    let high : c.max-high.result ≡ greater c.loop-k.high (at c.loop-k.k) = search rules in
    let low_so_far : c.loop-k.low ≡ extreme lesser at 0 c.loop-k.k = search rules in
    let high_so_far : c.loop-k.high ≡ extreme greater at 0 c.loop-k.k = search rules in
    (own_low ∙ low ∙ one_more lesser at c.loop-k.k low_so_far, own_high ∙ high ∙ one_more greater at c.loop-k.k high_so_far)
