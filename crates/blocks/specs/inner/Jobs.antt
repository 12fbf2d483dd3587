-- What a conversion goes by, as the definition names it.
use Rattle.std.specs.Prelude.{ℕ, ◌*◌}
use Rattle.reference.specs.Frames.{Run}
use Rattle.reference.specs.Output.{samples_per_frame}
use Rattle.channel_bytes.specs.inner.Lent.{byte_at}
use Rattle.channel_bytes.specs.inner.Runs as slices
use Rattle.blocks.specs.declared.job.Job.{Job}

-- its run
abbrev pub job_run : Job → Run
job_run j = slices.slices_run j.slices

-- the bytes of channel c by position
abbrev pub job_bytes : Job → ℕ → ℕ → ℕ
job_bytes j c = byte_at j.conv.channels j.slices.before.now j.slices.frames.now j.slices.after.now c

-- samples of a channel: in a frame, and in the run
abbrev pub in_frame : Job → ℕ
in_frame j = samples_per_frame j.conv.rate

abbrev pub in_run : Job → ℕ
in_run j = j.slices.count * in_frame j
