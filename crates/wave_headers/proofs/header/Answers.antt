use Rattle.std.proofs.Common.{rules, sym, ◌∙◌}
use Rattle.wave_headers.proofs.Writing.{none_written, writes, put_args}
use Rattle.wave_headers.proofs.header.Goals as goal

pub returns-then-not-writable : goal.returns-then-not-writable
returns-then-not-writable c = none_written _ _ _ _ _ _ (sym c.writable.ensures ∙ c.if-not-writable.true)

pub put-requires : goal.put-requires
put-requires c =
    let a = c.args in
    rw c.kind_of-kind.ensures (put_args a.format a.rate a.channels a.channel_type a.n a.out.now c.from.ensures (search rules) (sym c.writable.ensures ∙ c.if-not-writable.false))

pub returns : goal.returns
returns c =
    let a = c.args in
    let kind = c.kind_of-kind.ensures in
    let put = rw (kind, c.from.ensures, c.speakers_of-mask.ensures.1) at c.put.ensures in
    writes a.format a.rate a.channels a.channel_type a.n a.out.now (sym c.writable.ensures ∙ c.if-not-writable.false) put (rw kind at c.header_length.ensures)
