use Rattle.std.proofs.Common.{◌≡◌, false, take, ◌+◌, sym, ap, ◌∙◌, add-one, arith, length-take-le}
use Rattle.dsf.specs.Dsf.{stated_length}
use Rattle.dsf_upload.specs.Deciding.{head_hopeful, hopeful}
use Rattle.dsf.proofs.Alike.{T_is, T_of, F_of}
use Rattle.dsf_upload.proofs.Completed.{continues}
use Rattle.dsf_upload.proofs.Early.{empty_hopeful, shortest, inside, past_gives_up}
use Rattle.dsf.proofs.Head.{take_same, stated_same}
use Rattle.dsf_upload.proofs.Beginnings.{prefix_hopeful, accepts_same, file_hopeful_same, inside_head, stated_past}
use Rattle.dsf_upload.proofs.answer.Goals as goal

pub returns-then-is_accepted : goal.returns-then-is_accepted
returns-then-is_accepted c = λ file b h. T_of (sym (accepts_same h) ∙ sym c.is_accepted.ensures ∙ c.if-is_accepted.true)

pub returns-then-may_go_on : goal.returns-then-may_go_on
returns-then-may_go_on c =
    λ file b h.
    (F_of (sym (accepts_same h) ∙ sym c.is_accepted.ensures ∙ c.if-is_accepted.false), continues file b (T_of (sym (file_hopeful_same h) ∙ sym c.may_go_on.ensures ∙ c.if-may_go_on.true)))

pub loop-k-init : goal.loop-k-init
loop-k-init c = T_is empty_hopeful

pub slice_bounds-may_go_on-end : goal.slice_bounds-may_go_on-end
slice_bounds-may_go_on-end c =
    let head = c.args.head.now in
    let no : head_hopeful head c.args.total ≡ false = sym c.may_go_on.ensures ∙ c.if-may_go_on.false in
    let l = c.loop-k in
    sym (length-take-le (l.k + 1) head (omega (arith, inside_head head c.args.total c.requires no l.k (omega arith) l.invariant)))

pub loop-k-preserved : goal.loop-k-preserved
loop-k-preserved c =
    let head = c.args.head.now in
    let no : head_hopeful head c.args.total ≡ false = sym c.may_go_on.ensures ∙ c.if-may_go_on.false in
    let l = c.loop-k in
    let i = inside_head head c.args.total c.requires no l.k (omega arith) l.invariant in
    sym (prefix_hopeful head (l.k + 1) (omega arith)) ∙ sym c.may_go_on-in-loop-k.ensures ∙ c.if-not-may_go_on.false

pub returns-then-not-may_go_on : goal.returns-then-not-may_go_on
returns-then-not-may_go_on c =
    let head = c.args.head.now in
    let no : head_hopeful head c.args.total ≡ false = sym c.may_go_on.ensures ∙ c.if-may_go_on.false in
    let l = c.loop-k in
    let i = inside_head head c.args.total c.requires no l.k (omega arith) l.invariant in
    let t : hopeful (take (l.k + 1) head) ≡ false = sym (prefix_hopeful head (l.k + 1) (omega arith)) ∙ sym c.may_go_on-in-loop-k.ensures ∙ c.if-not-may_go_on.true in
    λ file b h.
    let n = F_of (sym (accepts_same h) ∙ sym c.is_accepted.ensures ∙ c.if-is_accepted.false) in
    let k = F_of (sym (file_hopeful_same h) ∙ no) in
    let here = T_of (ap hopeful (take_same file head h.begins l.k (omega arith)) ∙ l.invariant) in
    let past = ap hopeful (take_same file head h.begins (l.k + 1) (omega arith)) ∙ t in
    (n, rw add-one (shortest file b l.k (inside file b k l.k here) here (F_of (rw add-one at past))))

pub overflow_add-end : goal.overflow_add-end
unfolding stated_length
overflow_add-end c =
    let head = c.args.head.now in
    let no : head_hopeful head c.args.total ≡ false = sym c.may_go_on.ensures ∙ c.if-may_go_on.false in
    let l = c.loop-k in
    let e : l.k ≡ 92 = omega arith in
    omega (arith, stated_past head c.args.total c.requires no (rw e at l.invariant), c.number-stated.ensures)

pub returns : goal.returns
unfolding stated_length
returns c =
    let head = c.args.head.now in
    let no : head_hopeful head c.args.total ≡ false = sym c.may_go_on.ensures ∙ c.if-may_go_on.false in
    let l = c.loop-k in
    let e : l.k ≡ 92 = omega arith in
    λ file b h.
    let n = F_of (sym (accepts_same h) ∙ sym c.is_accepted.ensures ∙ c.if-is_accepted.false) in
    let k = F_of (sym (file_hopeful_same h) ∙ no) in
    let past = T_of (ap hopeful (take_same file head h.begins 92 (omega arith)) ∙ (rw e at l.invariant)) in
    (n, rw (add-one, c.number-stated.ensures ∙ sym (stated_same file head h.begins)) (past_gives_up file b k past))
