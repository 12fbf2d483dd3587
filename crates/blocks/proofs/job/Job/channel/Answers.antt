use Rattle.std.proofs.Common.{ℕ, true, ◌≡◌, ◌+◌, ◌*◌, ◌/◌, ◌%◌, ◌-◌, ◌≤◌, ◌<◌, length, take, refl, ap, ◌∙◌, arith, eqb, length-take-le}
use Rattle.reference.proofs.Frames.{frame_samples}
use Rattle.routes.specs.inner.Routes.{stride, first_byte, history_from, block_length}
use Rattle.routes.proofs.Routes.{a_frame}
use Rattle.numbers.proofs.Lists.{part_end}
use Rattle.blocks.specs.declared.job.Job.{Job}
use Rattle.blocks.specs.inner.Jobs.{job_bytes, in_frame, in_run}
use Rattle.blocks.proofs.Places.{some_taps, few_taps, history_fits, block_fits}
use Rattle.blocks.proofs.Sums.{run_few, even_frame, staged_begins, staged_gives, staged_near, blocks_none, blocks_more, front_of, at_end, ready_of}
use Rattle.blocks.proofs.job.Job.channel.Goals as goal

pub overflow_sub-last : goal.overflow_sub-last
overflow_sub-last g c = some_taps c.args.self.now.last

pub start-at-requires : goal.start-at-requires
start-at-requires g c =
    let job = c.args.self.now in
    let spf = c.samples_per_frame-spf.ensures in
    let even : c.samples_per_frame-spf.result % 2 ≡ 0 = rw spf.0 (even_frame job.conv.rate) in
    let few = run_few job.conv (ready_of job).slices in
    (omega (arith, few_taps job.last), omega (arith, spf.0, a_frame job.conv.rate), omega arith, omega arith)

pub gather-at-requires : goal.gather-at-requires
gather-at-requires g c =
    let job = c.args.self.now in
    let few = run_few job.conv (ready_of job).slices in
    let last = few_taps job.last in
    (omega arith, omega arith, omega arith, history_fits job.route (length job.taps.now - 1) (omega arith))

pub history-requires-clause-n_bound : goal.history-requires-clause-n_bound
history-requires-clause-n_bound g c = (omega (arith, few_taps c.args.self.now.last), c.gather-at.auto.bytes)

pub loop-b-init : goal.loop-b-init
loop-b-init g c =
    let job = c.args.self.now in
    let last = length job.taps.now - 1 in
    let from = c.start-at.ensures.0 ∙ ap (λ z. first_byte job.route (history_from job.route last true (z + c.args.n))) c.samples_per_frame-spf.ensures.0 in
    blocks_none
    (staged_begins (ready_of job) (job_bytes job c.args.channel) c.args.n last refl c.requires.place.2 from c.gather-at.ensures.value c.gather-at.ensures.held c.history.ensures.held)
    c.none-told.ensures

-- the block's place in its frames, and in the run
ends : (job : Job) (n frames : ℕ) {b spf m : ℕ} → b < frames * (spf / m) → spf ≡ in_frame job → m ≡ block_length job.route → n + frames * in_frame job ≤ in_run job
    → (b * m + m ≤ frames * in_frame job) × (n + b * m + m ≤ in_run job) × (in_run job ≤ 540000 * 4704)
ends job n frames {b} {spf} {m} l e f h =
    let whole = at_end job.routed frames e f refl in
    let last = part_end b (frames * (spf / m)) m l in
    (omega arith, omega arith, run_few job.conv (ready_of job).slices)

pub gather-at-requires-in-loop-b : goal.gather-at-requires-in-loop-b
gather-at-requires-in-loop-b g c =
    let job = c.args.self.now in
    let near = staged_near (ready_of job) _ (c.args.n + c.loop-b.b * c.block_length-m.result) c.loop-b.invariant.staged
    (omega (
      arith,
      ends job c.args.n c.args.frames c.loop-b-test.true c.samples_per_frame-spf.ensures.0 c.block_length-m.ensures.0 c.requires.place.1,
      frame_samples job.conv.rate,
    )) in
    (c.requires.place.0, near, c.fresh-new.ensures.1, omega (arith, block_fits job.route (eqb c.loop-b.b 0), ap (λ z. stride job.route * z) c.fresh-new.ensures.0))

pub overflow_mul-b : goal.overflow_mul-b
overflow_mul-b g c =
    let job = c.args.self.now in
    record { fits = omega (arith, ends job c.args.n c.args.frames c.loop-b-test.true c.samples_per_frame-spf.ensures.0 c.block_length-m.ensures.0 c.requires.place.1) }

pub overflow_add-n : goal.overflow_add-n
overflow_add-n g c =
    let job = c.args.self.now in
    record { fits = omega (arith, ends job c.args.n c.args.frames c.loop-b-test.true c.samples_per_frame-spf.ensures.0 c.block_length-m.ensures.0 c.requires.place.1) }

pub write-more-requires-clause-place : goal.write-more-requires-clause-place
write-more-requires-clause-place g c =
    let job = c.args.self.now in
    let near = ends job c.args.n c.args.frames c.loop-b-test.true c.samples_per_frame-spf.ensures.0 c.block_length-m.ensures.0 c.requires.place.1 in
    (c.requires.place.0, omega (arith, near, length-take-le c.block_length-m.result c.block.new.y (omega arith)))

pub write-more-requires-clause-held : goal.write-more-requires-clause-held
write-more-requires-clause-held g c =
    let job = c.args.self.now in
    let worked = staged_gives (ready_of job) (job_bytes job c.args.channel) (c.args.n + c.loop-b.b * c.block_length-m.result) c.loop-b.invariant.staged c.fresh-new.ensures.0
    c.gather-at-in-loop-b.ensures.held c.gather-at-in-loop-b.ensures.value c.block.ensures in
    front_of c.block_length-m.result (omega arith) worked.0

pub loop-b-preserved : goal.loop-b-preserved
loop-b-preserved g c =
    let job = c.args.self.now in
    let worked = staged_gives (ready_of job) (job_bytes job c.args.channel) (c.args.n + c.loop-b.b * c.block_length-m.result) c.loop-b.invariant.staged c.fresh-new.ensures.0
    c.gather-at-in-loop-b.ensures.held c.gather-at-in-loop-b.ensures.value c.block.ensures in
    let long : length (take c.block_length-m.result c.block.new.y) ≡ c.block_length-m.result = length-take-le c.block_length-m.result c.block.new.y (omega arith) in
    let near = ends job c.args.n c.args.frames c.loop-b-test.true c.samples_per_frame-spf.ensures.0 c.block_length-m.ensures.0 c.requires.place.1 in
    blocks_more c.loop-b.invariant c.block_length-m.ensures.0 worked.1 (rw long at c.write-more.ensures) (omega (arith, near)) c.join-told.ensures

pub returns : goal.returns
returns g c =
    let job = c.args.self.now in
    let whole = at_end job.routed c.args.frames {b = c.loop-b.b} c.samples_per_frame-spf.ensures.0 c.block_length-m.ensures.0 (omega arith) in
    rw whole at c.loop-b.invariant.made
