use Rattle.std.proofs.Common.{◌+◌, ◌∙◌, [], sym, ap, ℕ, arith}
use Rattle.reference.specs.Frames.{frame_count}
use Rattle.dsf_write.specs.Written.{head, written_data, laid_out}
use Rattle.dsf_write.proofs.Writing.{whole_file, length_is, long_after, head_put, piece_long}
use Rattle.dsf_write.proofs.Stretches.{written_parts, length_laid}
use Rattle.dsf_write.proofs.fill.Goals as goal

pub put_head-requires : goal.put_head-requires
unfolding frame_count
put_head-requires c =
    (c.requires.0.one, c.requires.0.six, c.requires.0.few, omega (arith, c.requires.1, length_is c.args.channels c.args.frames.now))

pub slice_bounds-fill_laid-count : goal.slice_bounds-fill_laid-count
slice_bounds-fill_laid-count c = omega (arith, long_after _ c.args.frames.now c.put_head.ensures c.requires.1)

pub slice_bounds-fill_laid-start : goal.slice_bounds-fill_laid-start
slice_bounds-fill_laid-start c = omega (arith, long_after _ c.args.frames.now c.put_head.ensures c.requires.1)

pub fill_laid-requires : goal.fill_laid-requires
fill_laid-requires c =
    let l = long_after _ c.args.frames.now c.put_head.ensures c.requires.1 in
    (c.requires.0, piece_long 92 (written_data c.args.channels c.args.frames.now) _ c.put_head.new.out [] (omega (arith, l)) (omega (arith, l)))

pub returns : goal.returns
returns c =
    let n = c.args.channels in
    let fr = c.args.frames.now in
    let l = long_after n fr c.put_head.ensures c.requires.1 in
    let s = length_laid n fr in
    rw c.fill_laid.ensures
    (whole_file (head n _) c.put_head.new.out (laid_out n fr) _ (head_put n _ _ c.put_head.ensures) (l ∙ ap (λ (x : ℕ). 92 + x) (sym s)) (omega (arith, l, s)) ∙ sym (written_parts n fr))
