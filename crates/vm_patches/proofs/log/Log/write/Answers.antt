use Rattle.std.proofs.Common.{◌++◌, ◌<◌, length, sym, ap, ◌∙◌, arith}
use Rattle.vm_patches.specs.Patches.{writes_of}
use Rattle.vm_patches.specs.Runs.{offset_of}
use Rattle.vm_patches.proofs.Runs.{few-writes, IsLog-pushed, writes_in-pushed}
use Rattle.vm_patches.proofs.log.Log.write.Goals as goal
use Rattle.vm_patches.proofs.log.Log.write.Goals.{then-len-gt-RUN_BYTES-via-then-len-gt-RUN_BYTES, then-len-gt-RUN_BYTES-via-else-len-gt-RUN_BYTES+then-count-eq-RUNS, then-len-gt-RUN_BYTES-via-else-len-gt-RUN_BYTES+else-count-eq-RUNS+then-len-used}

pub invariant_of-self : goal.invariant_of-self
invariant_of-self c =
    let m = c.self.inside in
    let log = c.self.invariant in
    let below : m.count < 20 = omega (arith, c.if-count-eq-RUNS.false, log.few) in
    IsLog-pushed m.count c.from-count.result m.used (length c.args.bytes.now) m.runs c.new.result c.from-count.ensures log below (omega (arith, below))
    (omega (arith, log.short, c.if-len-used.false)) c.new.ensures.length (omega (arith, c.new.ensures.offset, c.new.ensures.length, c.requires))

pub returns-clause-written : goal.returns-clause-written
returns-clause-written c =
    let m = c.self.inside in
    let log = c.self.invariant in
    let below : m.count < 20 = omega (arith, c.if-count-eq-RUNS.false, log.few) in
    let same = c.copy_from_slice.ensures.after in
    writes_in-pushed m.count c.from-count.result m.used c.from-used.result m.runs c.new.result m.bytes c.copy_from_slice.new.self _ c.from-count.ensures c.from-used.ensures log.counted (omega (arith, below))
    (c.new.ensures.length ∙ ap length (sym same)) (omega (arith, log.short))
    ∙ ap (λ ws. ws ++ writes_of (offset_of c.new.result) c.copy_from_slice.new.self) c.self.view_is
    ∙ ap (λ o. c.args.self.now ++ writes_of o c.copy_from_slice.new.self) c.new.ensures.offset
    ∙ ap (λ bytes. c.args.self.now ++ writes_of c.args.offset bytes) same

pub returns-then-len-gt-RUN_BYTES-clause-room : goal.returns-then-len-gt-RUN_BYTES-clause-room
returns-then-len-gt-RUN_BYTES-clause-room c short fits =
    let m = c.self.inside in
    let few = few-writes m.count m.used m.runs m.bytes c.self.invariant (omega (arith, c.self.invariant.few)) (omega arith) in
    let same = ap length c.self.view_is in
    elim c.then-len-gt-RUN_BYTES.branch [
      | then-len-gt-RUN_BYTES-via-then-len-gt-RUN_BYTES w ↦ absurd (omega (arith, w.if-len-gt-RUN_BYTES, short))
      | then-len-gt-RUN_BYTES-via-else-len-gt-RUN_BYTES+then-count-eq-RUNS w ↦ absurd (omega (arith, w.if-count-eq-RUNS, few, same, fits, c.if-len-eq0.false))
      | then-len-gt-RUN_BYTES-via-else-len-gt-RUN_BYTES+else-count-eq-RUNS+then-len-used w ↦ absurd (omega (arith, w.if-len-used, few, same, fits))
    ]
