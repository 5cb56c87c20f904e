use Rattle.std.proofs.Common.{refl, arith}
use Rattle.vm_guest.proofs.work.steps_ahead.Goals as goal

pub returns-clause-steps : goal.returns-clause-steps
returns-clause-steps c = rw (← c.parts.view_is, c.min.ensures, c.from-2.ensures, c.from.ensures, c.len.ensures) refl

pub returns-clause-few : goal.returns-clause-few
returns-clause-few c = omega (arith, c.min.ensures, c.from-2.ensures, c.parts.invariant.short_quantum)
