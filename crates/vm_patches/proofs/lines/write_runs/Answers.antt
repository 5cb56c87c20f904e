use Rattle.std.proofs.Common.{◌+◌, ◌<◌, ◌≤◌, length, take, slice_range, refl, sym, ap, ◌∙◌, arith}
use Rattle.std.proofs.lemmas.List.{take_all}
use Rattle.vm_patches.specs.declared.log.Run.{Run}
use Rattle.vm_patches.specs.Lines.{masked}
use Rattle.vm_patches.specs.Patches.{overwritten, patched}
use Rattle.vm_patches.specs.Runs.{writes_in}
use Rattle.vm_patches.proofs.Masks.{length-masked}
use Rattle.vm_patches.proofs.Runs.{patched-stretch, stretch-fits, total-next}
use Rattle.vm_patches.proofs.lines.write_runs.Goals as goal

pub overflow_add-end : goal.overflow_add-end
overflow_add-end c =
    let fits = stretch-fits c.args.runs.now c.loop-run.run-index c.loop-run.at c.len.result (length c.args.written.now) (record { word = 0 }) (omega arith) c.loop-run.invariant.at c.len.ensures c.requires.counted in
    omega (arith, fits)

pub slice_bounds-write_lines-end : goal.slice_bounds-write_lines-end
slice_bounds-write_lines-end c =
    stretch-fits c.args.runs.now c.loop-run.run-index c.loop-run.at c.len.result (length c.args.written.now) (record { word = 0 }) (omega arith) c.loop-run.invariant.at c.len.ensures c.requires.counted

pub loop-run-preserved : goal.loop-run-preserved
loop-run-preserved c =
    let i = c.loop-run.run-index in
    let runs = c.args.runs.now in
    let written = c.args.written.now in
    let at = c.loop-run.at in
    let end = at + c.len.result in
    let d : Run = record { word = 0 } in
    let page = masked c.args.lines.now c.args.page.now in
    let before = c.loop-run.invariant in
    let below : i < length runs = omega arith in
    let fits : end ≤ length written = stretch-fits runs i at c.len.result (length written) d below before.at c.len.ensures c.requires.counted in
    record {
      at = omega (arith, total-next runs i (i + 1) d refl below, before.at, c.len.ensures);
      brought =
          c.write_lines.ensures
          ∙ ap (λ xs. overwritten xs c.offset.result (slice_range written at end)) before.brought
          ∙ ap (λ o. overwritten (patched page (writes_in (take i runs) written)) o (slice_range written at end)) c.offset.ensures
          ∙ sym (patched-stretch page runs written i (i + 1) at end d (length-masked c.args.lines.now c.args.page.now) refl below before.at (omega (arith, c.len.ensures)) fits (c.requires.within i d below));
    }

pub returns : goal.returns
returns c =
    let whole = take_all c.loop-run.run-index c.args.runs.now (omega arith) in
    rw whole at c.loop-run.invariant.brought
