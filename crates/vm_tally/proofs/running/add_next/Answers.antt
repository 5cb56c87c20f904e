use Rattle.std.proofs.Common.{ap, ◌∙◌}
use Rattle.vm_sim.specs.Stepping.{RunState}
use Rattle.vm_tally.proofs.NextLemmas.{summary_more}
use Rattle.vm_tally.proofs.running.add_next.Goals as goal

pub returns-clause-summary : goal.returns-clause-summary
returns-clause-summary c = λ config is was.
    let k = c.args.epoch in
    let ready = c.in_ok-told.ensures.made config k is in
    let after = c.in_ok-epoch_alone.ensures.next config k ready in
    summary_more config k _ _ _ _ _ _ _ (c.in_ok-told.ensures.told config k is) (c.host.ensures ∙ ap (λ (run : RunState). run.host) ready)
    (c.host-2.ensures ∙ ap (λ (run : RunState). run.host) after) was c.add_boundary-before.ensures.executed c.add_boundary-before.ensures.summary
    c.add_epoch.ensures
