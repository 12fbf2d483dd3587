-- `convert_slices`: what its job goes by.
use Rattle.std.proofs.Common.{◌∙◌, ⊎_elim}
use Rattle.routes.specs.inner.Routes.{FirstTables}
use Rattle.workspace.proofs.Bound.{made_ready}
use Rattle.workspace.proofs.convert_slices.Goals as goal

pub invariant_of-job : goal.invariant_of-job
unfolding FirstTables
invariant_of-job g c =
    let t = c.s1_tables-tables.ensures in
    let first : FirstTables c.new-route.result c.s1_tables-tables.result = ⊎_elim (λ e. rw e t) (⊎_elim (λ e. rw e t) (λ e. rw e t)) c.in-Narrow88.is in
    let ready = made_ready c.requires.accepted c.new-route.ensures first (c.as_slice-taps.ensures ∙ c.last_taps-bound.ensures) in
    record { same = c.requires.same; routed = ready.routed; first = ready.first; last = ready.last; factor = ready.factor }

pub invariant_of-job-in-Wide176 : goal.invariant_of-job-in-Wide176
unfolding FirstTables
invariant_of-job-in-Wide176 g c =
    let t = c.s1_wide_tables-tables.ensures in
    let first : FirstTables c.new-route.result c.s1_wide_tables-tables.result = ⊎_elim (λ e. rw e t) (λ e. rw e t) c.in-Wide176.is in
    let ready = made_ready c.requires.accepted c.new-route.ensures first (c.as_slice-taps.ensures ∙ c.last_taps-bound.ensures) in
    record { same = c.requires.same; routed = ready.routed; first = ready.first; last = ready.last; factor = ready.factor }
