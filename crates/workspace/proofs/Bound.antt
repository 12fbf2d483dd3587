-- What is bound once a call: the taps in the front of their array, the tables of a route, and what makes a run ready.
use Rattle.std.proofs.Common.{◌≡◌, ◌∙◌, ap₂, List, ◌++◌, append_assoc, ℕ, ◌+◌, ◌-◌, ◌*◌, ◌/◌, arith, ℤ, length, take, length-append, take_at}
use borrow.Rule.Slice.PartMut.{put_mid}
use Rattle.numbers.specs.Sums.{at0}
use Rattle.lanes.specs.inner.Lanes.{Filled}
use Rattle.filters.proofs.Signals.{is_even, is_odd}
use Rattle.routes.specs.declared.Route.{Route}
use Rattle.routes.specs.inner.Routes.{route_of, FirstTables, last_of, halves_of, lent_taps}
use Rattle.reference.specs.declared.Converter.{Converter}
use Rattle.blocks.specs.inner.Blocks.{Ready}
use Rattle.workspace.specs.inner.Accepted.{Accepted}

-- the even ones, and then the odd ones after them
pub halves_bound : (f rest : List ℤ) (e : ℕ) {old new old' new' : List ℤ} → e ≡ (length f + 1) / 2 → Filled (λ k. at0 f (2 * k + 0)) old new → length old ≡ e
    → Filled (λ k. at0 f (2 * k + 1)) old' new' → length old' ≡ length f - e
    → take (length f) (put_mid e (length f - e) (new ++ rest) new') ≡ halves_of f
unfolding halves_of
halves_bound f rest e {new = new} {new' = new'} is g a g' b =
    let long : length new ≡ e = g.same ∙ a in
    let long' : length new' ≡ length f - e = g'.same ∙ b in
    rw (take_at new rest e long, ← append_assoc)
    (take_at (new ++ new') _ (length f) (omega (arith, length-append new new')) ∙ ap₂ (λ a b. a ++ b) (is_even f g (a ∙ is)) (is_odd f g' (b ∙ omega arith)))

-- the tables and the taps that are bound are the route's
pub made_ready : {conv : Converter} {route : Route} {n : ℕ} {b f a : List ℕ} {tables taps : List ℤ} → Accepted conv n b f a → route ≡ route_of conv.rate conv.cutoff
    → FirstTables route tables → taps ≡ lent_taps route (last_of conv) → Ready conv route n b f a tables taps
made_ready x is t e = record { slices = x.slices; routed = record { is = is; supported = x.supported }; first = t; last = record { last = rw is x.last; lent = e }; factor = x.factor }
