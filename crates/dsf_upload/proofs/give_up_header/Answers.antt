use Rattle.std.proofs.Common.{◌≡◌, sym, arith, length-take-le}
use Rattle.dsf_upload.specs.Uploads.{known}
use Rattle.dsf_upload.proofs.Beginnings.{short_known, long_known}
use Rattle.dsf_upload.proofs.give_up_header.Goals as goal

pub returns-then-known-lt92 : goal.returns-then-known-lt92
returns-then-known-lt92 c =
    let head = c.args.head.now in
    let k = c.min-known.result in
    let e : k ≡ known head c.args.length = omega (arith, c.min.ensures, c.min-known.ensures) in
    short_known head c.args.length k e c.answer.result c.if-known-lt92.true c.answer.ensures

pub slice_bounds-answer-end-2 : goal.slice_bounds-answer-end-2
slice_bounds-answer-end-2 c = sym (length-take-le 92 c.args.head.now (omega (arith, c.min.ensures, c.min-known.ensures)))

pub answer-requires-2 : goal.answer-requires-2
answer-requires-2 c = λ l. absurd (omega (arith, length-take-le 92 c.args.head.now (omega (arith, c.min.ensures, c.min-known.ensures))))

pub returns : goal.returns
returns c =
    let head = c.args.head.now in
    let k = c.min-known.result in
    let e : k ≡ known head c.args.length = omega (arith, c.min.ensures, c.min-known.ensures) in
    long_known head c.args.length k e c.answer-2.result c.if-known-lt92.false c.answer-2.ensures
