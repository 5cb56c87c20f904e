use Rattle.std.proofs.Common.{◌≡◌, ℕ, ◌+◌, ◌-◌, ◌<◌, ◌≤◌, List, ◌++◌, length, get_or, take, drop, refl, sym, ap, ◌∙◌, true≢false, arith}
use Rattle.std.proofs.lemmas.List.{take_all}
use Rattle.vm_patches.specs.declared.log.Run.{Run}
use Rattle.vm_patches.specs.declared.patch.ByteWrite.{ByteWrite}
use Rattle.vm_patches.specs.Patches.{writes_of}
use Rattle.vm_patches.specs.Runs.{offset_of, total, writes_in}
use Rattle.vm_patches.proofs.Runs.{length-writes_in, stretch-fits, stretch-is, total-next, total-take, writes_in-next}
use Rattle.vm_patches.proofs.log.patch_of.Goals as goal

pub overflow_add-end : goal.overflow_add-end
overflow_add-end c =
    let fits = stretch-fits c.args.runs.now c.loop-run.run-index c.loop-run.at c.len.result (length c.args.written.now) (record { word = 0 }) (omega arith) c.loop-run.invariant.at c.len.ensures c.requires.counted in
    omega (arith, fits)

pub slice_bounds-write-end : goal.slice_bounds-write-end
slice_bounds-write-end c =
    stretch-fits c.args.runs.now c.loop-run.run-index c.loop-run.at c.len.result (length c.args.written.now) (record { word = 0 }) (omega arith) c.loop-run.invariant.at c.len.ensures c.requires.counted

-- as many bytes are in the patch as the stretches so far have
size : (runs : List Run) (written : List ℕ) (i : ℕ) (patch : List ByteWrite) → total runs ≤ length written → patch ≡ writes_in (take i runs) written → length patch ≡ total (take i runs)
size runs written i patch counted is = ap length is ∙ length-writes_in (take i runs) written (omega (arith, counted, total-take runs i))

pub loop-run-preserved : goal.loop-run-preserved
loop-run-preserved c =
    let i = c.loop-run.run-index in
    let runs = c.args.runs.now in
    let written = c.args.written.now in
    let at = c.loop-run.at in
    let end = at + c.len.result in
    let d : Run = record { word = 0 } in
    let before = c.loop-run.invariant in
    let below : i < length runs = omega arith in
    let next = total-next runs i (i + 1) d refl below in
    record {
      at = omega (arith, next, before.at, c.len.ensures);
      room = omega (arith, next, c.len.ensures, size runs written i c.loop-run.patch c.requires.counted before.brought);
      brought =
          c.write.ensures
          ∙ ap (λ ws. ws ++ writes_of c.offset.result (take (end - at) (drop at written))) before.brought
          ∙ ap (λ o. writes_in (take i runs) written ++ writes_of o (take (end - at) (drop at written))) c.offset.ensures
          ∙ ap (λ bytes. writes_in (take i runs) written ++ writes_of (offset_of (get_or runs i d)) bytes) (sym (stretch-is runs written i at end d below before.at (omega (arith, c.len.ensures))))
          ∙ sym (writes_in-next runs written i (i + 1) d refl below);
    }

pub returns-then-not-has_room : goal.returns-then-not-has_room
returns-then-not-has_room c =
    let i = c.loop-run.run-index in
    let runs = c.args.runs.now in
    let written = c.args.written.now in
    let before = c.loop-run.invariant in
    let next = total-next runs i (i + 1) (record { word = 0 }) refl (omega arith) in
    let held = size runs written i c.loop-run.patch c.requires.counted before.brought in
    λ room. true≢false (sym (c.if-not-has_room.ensures.1 (omega (arith, room, next, held, total-take runs (i + 1), c.len.ensures))))

pub returns : goal.returns
returns c =
    let whole = take_all c.loop-run.run-index c.args.runs.now (omega arith) in
    (rw whole at c.loop-run.invariant.room, rw whole at c.loop-run.invariant.brought)
