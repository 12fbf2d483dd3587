use Rattle.std.proofs.Common.{rules, arith, ◌≡◌, sym, ◌∙◌, ◌+◌, ◌*◌, ◌<◌, length, true}
use Rattle.std.specs.Option.{is_none}
use Rattle.overs.specs.Overs.{end_of}
use Rattle.overs.proofs.Laws.{at, place_inside}
use Rattle.channel_overs.proofs.Passed.{nothing_some, nothing_none, passed_none, passed_more}
use Rattle.channel_overs.proofs.passed_over.Goals as goal

pub returns-then-is_some : goal.returns-then-is_some
returns-then-is_some c = let a = c.args in (c.requires.1, passed_none (at a.items.now a.n a.c) a.p a.k)

pub loop-at-init : goal.loop-at-init
loop-at-init c = let a = c.args in (c.requires.1, passed_none (at a.items.now a.n a.c) a.p a.k)

-- the place that is read
inside : (c : goal.In-loop-at) → (c.loop-at.at + 2) * c.args.n + c.args.c < length c.args.items.now
inside c = (place_inside (length c.args.items.now) c.args.n c.args.c (c.loop-at.at + 2) (omega (arith, c.requires.0))).1

pub overflow_mul-at : goal.overflow_mul-at
overflow_mul-at c = let i = inside c in search rules

pub overflow_add-at-in-loop-at : goal.overflow_add-at-in-loop-at
overflow_add-at-in-loop-at c = let i = inside c in search rules

pub offset_bounds-items-at : goal.offset_bounds-items-at
offset_bounds-items-at c = let i = inside c in search rules

pub bounds-items-at : goal.bounds-items-at
bounds-items-at c = inside c

pub loop-at-preserved : goal.loop-at-preserved
loop-at-preserved c =
    let a = c.args in
    let start = nothing_some a.p (sym c.is_some.ensures ∙ c.if-is_some.false) in
    let third : c.end_of.result ≡ end_of (at a.items.now a.n a.c (c.loop-at.at + 2)) = search rules in
    let none : is_none c.end_of.result ≡ true = search rules in
    let quiet = sym third ∙ nothing_none _ none in
    (omega arith, passed_more (at a.items.now a.n a.c) a.p a.k c.loop-at.at c.loop-at.invariant.1 start quiet)
