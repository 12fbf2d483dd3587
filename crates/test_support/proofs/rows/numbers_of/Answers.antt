-- `numbers_of`: a digit more, a number more, and no byte left.
use Rattle.std.proofs.Common.{◌∷◌, [], ◌++◌, sym, ap, ◌∙◌}
use Rattle.std.proofs.lemmas.List.{append_assoc, append-nil}
use Rattle.test_support.proofs.rows.numbers_of.Goals.{in-Some, in-None+in_ok-push-in-None}
use Rattle.test_support.proofs.Stored.{digit_more, number_more, none_left}
use Rattle.test_support.proofs.rows.numbers_of.Goals as goal

pub loop-b-preserved : goal.loop-b-preserved
loop-b-preserved c =
    let text = c.args.text.now in
    let n = c.loop-b.n in
    let k = c.loop-b.b-index in
    elim c.match-digit.branch [
      | in-Some w ↦
          rw (w.all-is, w.n-is)
          (ap (λ ns. c.loop-b.all.items ++ ns) (sym (digit_more n text k w.in-Some.d c.loop-b-test.true (sym c.digit.ensures.0 ∙ w.in-Some.is))) ∙ c.loop-b.invariant)
      | in-None+in_ok-push-in-None w ↦
          rw (w.all-is, w.n-is, w.in_ok-push-in-None.ensures.items)
          (append_assoc c.loop-b.all.items (n ∷ []) _
          ∙ ap (λ ns. c.loop-b.all.items ++ ns) (sym (number_more n text k c.loop-b-test.true (sym c.digit.ensures.0 ∙ w.in-None.is))) ∙ c.loop-b.invariant)
    ]

pub returns : goal.returns
returns c =
    sym (append-nil c.loop-b.all.items)
    ∙ ap (λ ns. c.loop-b.all.items ++ ns) (sym (none_left c.loop-b.n c.args.text.now c.loop-b.b-index c.loop-b-test.false))
    ∙ c.loop-b.invariant
