use Rattle.std.proofs.Common.{arith, ◌+◌, ◌*◌, ⊎_elim, length-take-le}
use Rattle.numbers.proofs.Lists.{held_some, held_none}
use Rattle.routes.specs.declared.Route.TheVariants.{Narrow88, Wide176}
use Rattle.routes.specs.inner.Routes.{FirstTables, filter_input, stride, around, first_byte}
use Rattle.routes.proofs.Arrays.{held_at}
use Rattle.kernel.proofs.Blocks.{HistoryHeld, front_held}
use Rattle.kernel.proofs.history.Goals as goal

pub bring_v-requires : goal.bring_v-requires
unfolding FirstTables
bring_v-requires c =
    let f = c.requires.first_tables in
    record {
      byte_tables = ⊎_elim (λ e. rw e at f) (⊎_elim (λ e. rw e at f) (λ e. rw e at f)) c.in-Narrow88.is;
      room = (omega arith, omega arith, length-take-le (2 * c.args.n + 36) c.args.bytes.now (omega arith));
    }

pub bring_u-requires-clause-byte_tables : goal.bring_u-requires-clause-byte_tables
unfolding FirstTables
bring_u-requires-clause-byte_tables c =
    let f = c.requires.first_tables in
    ⊎_elim (λ e. rw e at f) (λ e. rw e at f) c.in-Wide176.is

pub returns-in-Narrow88 : goal.returns-in-Narrow88
unfolding filter_input stride around first_byte
returns-in-Narrow88 c =
    let n = c.args.n in
    let values : HistoryHeld Narrow88 n c.args.bytes.now c.bring_v.new.self.x =
    λ β i l bytes. held_some n (omega arith) (c.bring_v.ensures.held β i (omega arith) (held_at _ (omega arith) (front_held bytes (2 * n + 36) (omega arith))) held_none) in
    record { kept = c.bring_v.ensures.kept; held = ⊎_elim (λ e. rw e values) (⊎_elim (λ e. rw e values) (λ e. rw e values)) c.in-Narrow88.is }

pub returns-in-Wide176-clause-held : goal.returns-in-Wide176-clause-held
unfolding filter_input stride around first_byte
returns-in-Wide176-clause-held c =
    let n = c.args.n in
    let values : HistoryHeld Wide176 n c.args.bytes.now c.bring_u.new.self.x =
    λ β i l bytes. held_some n (omega arith) (c.bring_u.ensures.held β i (omega arith) (held_at _ (omega arith) (front_held bytes (n + 11) (omega arith))) held_none) in
    ⊎_elim (λ e. rw e values) (λ e. rw e values) c.in-Wide176.is
