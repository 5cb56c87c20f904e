use Rattle.std.proofs.Common.{◌≡◌, ◌∙◌, ap, sym, true, false}
use Rattle.vm_sim.proofs.SteppingLemmas.{run_waits, waits-else}
use Rattle.vm_sim.specs.Stepping.{RunState}
use Rattle.vm_sim.proofs.stepping.SteppedRun.make_ready.Goals as goal

-- a run whose epoch is done waits for a boundary
pub returns-then-ready-clause-made : goal.returns-then-ready-clause-made
returns-then-ready-clause-made c = λ config k is.
    absurd (c.ready.ensures.0 c.if-ready.true (ap (λ (run : RunState). run.host.phase) (c.self.view_is ∙ is) ∙ run_waits config k))

pub boundary-requires-clause-waits : goal.boundary-requires-clause-waits
boundary-requires-clause-waits c =
    ap (λ (run : RunState). run.host.phase) (sym c.self.view_is)
    ∙ waits-else c.self.inside.host.phase (λ waits. let no : true ≡ false = sym (c.ready.ensures.1 waits) ∙ c.if-ready.false in absurd (cc))
