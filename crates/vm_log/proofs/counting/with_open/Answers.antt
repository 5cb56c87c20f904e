use Rattle.std.proofs.Common.{◌<◌, ◌≡◌, ◌≤◌, ◌+◌, ◌^◌, ◌∙◌, Some, arith, ap, sym, subst}
use Rattle.vm_recorded.specs.declared.counts.Counts.{Counts}
use Rattle.vm_recorded.specs.Counts.{absent_for, counted}
use Rattle.vm_log.proofs.CountingLemmas.{absent_bytes, absent_steps, counted_small}
use Rattle.vm_log.specs.Told.{IsSmall}
use Rattle.vm_log.proofs.counting.with_open.Goals as goal

pub with-requires-clause-steps : goal.with-requires-clause-steps
with-requires-clause-steps c =
    omega (arith, ap (λ (x : Counts). x.steps) c.absent.ensures, absent_steps c.args.gap c.args.counts, c.requires.within, c.requires.few, c.requires.small.steps)

pub with-requires-clause-bytes : goal.with-requires-clause-bytes
with-requires-clause-bytes c =
    omega (arith, ap (λ (x : Counts). x.bytes) c.absent.ensures, absent_bytes c.args.gap c.args.counts, c.requires.within, c.requires.few, c.requires.small.bytes)

pub returns-clause-small : goal.returns-clause-small
returns-clause-small c =
    let last : c.args.counts.last < 2 ^ 32 = omega arith in
    let used : c.args.used < 2 ^ 32 = omega arith in
    let is : c.with.result ≡ counted (absent_for c.args.gap c.args.counts) (Some c.args.used) = c.with.ensures ∙ ap (λ (x : Counts). counted x (Some c.args.used)) c.absent.ensures in
    subst (IsSmall (c.args.epoch + 1)) (sym is) (counted_small c.args.epoch c.args.gap c.args.used c.args.counts c.requires.few c.requires.within last used c.requires.small)
