use Rattle.std.proofs.Common.{sym, refl}
use Rattle.codes.proofs.Known.{some_known}
use Rattle.codes.proofs.Calls.{done_so, turned_away}
use Rattle.c_converter.specs.inner.Blocks.{as_converter, as_input}
use Rattle.c_levels.specs.Calls.{lent}
use Rattle.c_levels.proofs.Done.{not_presence, no_room, all_known, levels_done}
use Rattle.c_levels.proofs.frame_levels.Goals as goal

pub returns-then-input-ge4 : goal.returns-then-input-ge4
returns-then-input-ge4 c =
    let a = c.args in
    turned_away (not_presence (as_converter a.blocks) (as_input a.input) (lent a.standings.now a.samples.now a.lines.now a.told.now a.«data».now a.decibels.now) c.if-input-ge4.true) refl

pub returns-then-lines-lt864 : goal.returns-then-lines-lt864
returns-then-lines-lt864 c =
    let a = c.args in
    turned_away (no_room (as_converter a.blocks) (as_input a.input) (lent a.standings.now a.samples.now a.lines.now a.told.now a.«data».now a.decibels.now) c.if-lines-lt864.true) refl

pub returns : goal.returns
returns c =
    let a = c.args in
    let made = c.frame_report-made in
    let told = c.tell_frame in
    let k = some_known _ _ _ (sym c.in-Some.ensures) in
    let s = some_known _ _ _ (sym c.in-Some-states_of.ensures) in
    let old = lent a.standings.now a.samples.now a.lines.now a.told.now a.«data».now a.decibels.now in
    let new = lent told.new.standings made.new.samples made.new.out told.new.told told.new.«data» told.new.decibels in
    done_so (all_known (as_converter a.blocks) (as_input a.input) old k.0 s.0 c.if-input-ge4.false c.if-lines-lt864.false)
    (rw (k.1, s.1, ← c.run.ensures) (levels_done _ _ _ _ old new made.result made.ensures.frame_reported told.ensures.told_whole told.ensures.told_after told.ensures.standings_after))
