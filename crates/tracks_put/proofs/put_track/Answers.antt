use Rattle.std.proofs.Common.{◌/◌, ap, ◌∙◌, ℕ, min}
use Rattle.dsf_frames.specs.Reading.{window_data}
use Rattle.tracks_put.specs.inner.Placing.{with_track}
use Rattle.tracks_put.proofs.Pieces.{put_args, untouched}
use Rattle.tracks_put.proofs.put_track.Goals as goal

pub put-requires : goal.put-requires
put-requires c =
    let last = c.min.ensures ∙ ap (λ (x : ℕ). min (c.args.header.samples / 8) x) c.saturating_sub-2.ensures in
    put_args c.requires _ c.saturating_sub.ensures last c.saturating_sub-3.ensures c.if-part.true

pub returns-then-part : goal.returns-then-part
unfolding with_track
returns-then-part c = rw (c.saturating_sub.ensures, c.min.ensures, c.saturating_sub-2.ensures, c.saturating_sub-3.ensures) at c.put.ensures

pub returns-else-part : goal.returns-else-part
returns-else-part c =
    let a = c.args in
    let h = a.header in
    untouched (window_data a.window.now.bytes.now a.window.now.start) h.channels h.bits_per_sample h.samples a.begins a.span.from a.span.to a.out.now
    (rw (c.saturating_sub.ensures, c.min.ensures, c.saturating_sub-2.ensures) at c.if-part.false)
