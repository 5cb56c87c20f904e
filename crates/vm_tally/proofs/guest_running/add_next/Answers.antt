use Rattle.std.proofs.Common.{ap, ◌∙◌}
use Rattle.vm_sim.specs.Stepping.{RunState}
use Rattle.vm_tally.proofs.GuestLemmas.{tally-more}
use Rattle.vm_tally.proofs.guest_running.add_next.Goals as goal

pub returns-clause-tally : goal.returns-clause-tally
returns-clause-tally c = λ config k guests is was.
    let ready = c.in_ok-told.ensures.made config k is in
    let after = c.in_ok-epoch_alone.ensures.next config k ready in
    tally-more config guests k _ _ _ _ _ _ (c.in_ok-told.ensures.told config k is) (c.host.ensures ∙ ap (λ (run : RunState). run.host) ready)
    (c.host-2.ensures ∙ ap (λ (run : RunState). run.host) after) was c.add_boundary.ensures c.add_epoch.ensures
