use Rattle.std.proofs.Common.{length, ◌-◌, sym, ◌∙◌}
use Rattle.wav_format.proofs.Reading.{right_is, too_short, not_right, not_begun, is_told}
use Rattle.wav_format.proofs.read.Goals as goal
use Rattle.wav_format.proofs.read.Goals.{else-right_data-via-then-right_data+else-has_header, else-right_data-via-else-right_data}

pub returns-then-file-lt44 : goal.returns-then-file-lt44
returns-then-file-lt44 c = too_short c.args.file.now c.if-file-lt44.true

pub has_header-requires : goal.has_header-requires
has_header-requires c =
    let r = right_is c.rate_of-rate.result c.channels_of-channels.result (length c.args.file.now - 44) (sym c.right_data.ensures ∙ c.if-right_data.true) in
    (c.if-file-lt44.false, c.channels_of-channels.ensures.1, r.told)

pub returns-then-has_header : goal.returns-then-has_header
returns-then-has_header c =
    is_told c.args.file.now c.rate_of-rate.result c.channels_of-channels.result c.rate_of-rate.ensures
    c.channels_of-channels.ensures.0 c.has_header.ensures c.right_data.ensures c.if-right_data.true c.if-has_header.true

pub returns : goal.returns
returns c =
    let file = c.args.file.now in
    let rate = c.rate_of-rate.result in
    let channels = c.channels_of-channels.result in
    elim c.else-right_data.branch [
      | else-right_data-via-then-right_data+else-has_header w ↦ not_begun file rate channels c.rate_of-rate.ensures c.channels_of-channels.ensures.0 w.has_header.ensures w.if-has_header.false
      | else-right_data-via-else-right_data w ↦ not_right file rate channels c.rate_of-rate.ensures c.channels_of-channels.ensures.0 c.right_data.ensures w.if-right_data.false
    ]
