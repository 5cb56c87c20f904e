use Rattle.std.proofs.Common.{length, refl, inl, inr, arith}
use Rattle.vm_patches.proofs.Laying.{laid-inside, laid-outside}
use Rattle.vm_patches.proofs.log.lay.Goals as goal
use Rattle.vm_patches.proofs.log.lay.Goals.{else-start-last-via-then-start-last+else-offset-end, else-start-last-via-else-start-last}

pub returns-then-offset-end-clause-laid : goal.returns-then-offset-end-clause-laid
returns-then-offset-end-clause-laid c =
    λ page long seen.
    laid-inside page c.args.stretch.now c.args.bytes.now c.args.start c.args.offset (length c.args.bytes.now) long c.requires.within c.requires.inside seen
    c.copy_from_slice.new.self c.max-from.result c.min-to.result _ _ c.max-from.ensures c.min-to.ensures
    c.if-start-last.true c.if-offset-end.true refl refl c.copy_from_slice.ensures.after

pub returns-else-start-last-clause-laid : goal.returns-else-start-last-clause-laid
returns-else-start-last-clause-laid c =
    λ page long seen.
    laid-outside page c.args.stretch.now c.args.bytes.now c.args.start c.args.offset (length c.args.bytes.now) long c.requires.within c.requires.inside seen
    (elim c.else-start-last.branch [
      | else-start-last-via-then-start-last+else-offset-end w ↦ inr (omega (arith, w.if-offset-end.false))
      | else-start-last-via-else-start-last w ↦ inl (omega (arith, w.if-start-last.false))
    ])
