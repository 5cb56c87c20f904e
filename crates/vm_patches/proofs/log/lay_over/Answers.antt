use Rattle.std.proofs.Common.{◌+◌, ◌<◌, ◌≤◌, length, take, slice_range, refl, sym, ap, ◌∙◌, arith}
use Rattle.std.proofs.lemmas.List.{take_all}
use Rattle.vm_patches.specs.Patches.{overwritten, patched}
use Rattle.vm_patches.specs.Runs.{writes_in}
use Rattle.vm_patches.proofs.Writes.{length-patched}
use Rattle.vm_patches.proofs.Runs.{patched-stretch, stretch-fits, total-next}
use Rattle.vm_patches.proofs.log.lay_over.Goals as goal

pub overflow_add-end : goal.overflow_add-end
overflow_add-end c =
    let fits = stretch-fits c.args.runs.now c.loop-run.run-index c.loop-run.at c.len.result (length c.args.written.now) (record { word = 0 }) (omega arith) c.loop-run.invariant.at c.len.ensures c.requires.counted in
    omega (arith, fits)

pub slice_bounds-lay-end : goal.slice_bounds-lay-end
slice_bounds-lay-end c =
    stretch-fits c.args.runs.now c.loop-run.run-index c.loop-run.at c.len.result (length c.args.written.now) (record { word = 0 }) (omega arith) c.loop-run.invariant.at c.len.ensures c.requires.counted

pub loop-run-preserved : goal.loop-run-preserved
loop-run-preserved c =
    let i = c.loop-run.run-index in
    let runs = c.args.runs.now in
    let written = c.args.written.now in
    let at = c.loop-run.at in
    let end = at + c.len.result in
    let offset = c.args.offset in
    let size = length c.args.bytes.now in
    let before = c.loop-run.invariant in
    let below : i < length runs = omega arith in
    let fits : end ≤ length written = stretch-fits runs i at c.len.result (length written) (record { word = 0 }) below before.at c.len.ensures c.requires.counted in
    record {
      count = c.lay.ensures.length ∙ before.count;
      at = omega (arith, total-next runs i (i + 1) (record { word = 0 }) refl below, before.at, c.len.ensures);
      laid = λ page long seen.
          let brought = patched page (writes_in (take i runs) written) in
          let laid = c.lay.ensures.laid brought (length-patched page (writes_in (take i runs) written) ∙ long) (rw before.count (before.laid page long seen)) in
          laid
          ∙ ap (λ k. slice_range (overwritten brought c.offset.result (slice_range written at end)) offset (offset + k)) before.count
          ∙ ap (λ o. slice_range (overwritten brought o (slice_range written at end)) offset (offset + size)) c.offset.ensures
          ∙ ap (λ xs. slice_range xs offset (offset + size)) (sym (patched-stretch page runs written i (i + 1) at end (record { word = 0 }) long refl below before.at (omega (arith, c.len.ensures)) fits (c.requires.within i (record { word = 0 }) below)));
    }

pub returns : goal.returns
returns c =
    λ page long seen.
    let whole = take_all c.loop-run.run-index c.args.runs.now (omega arith) in
    rw whole at (c.loop-run.invariant.laid page long seen)
