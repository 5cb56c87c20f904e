use Rattle.std.proofs.Common.{ap, ◌∙◌}
use Rattle.vm_sim.specs.Stepping.{RunState}
use Rattle.vm_tally.proofs.GuestLemmas.{summaries-of}
use Rattle.vm_tally.proofs.guest_running.summarize_guests.Goals as goal

pub returns-clause-summaries : goal.returns-clause-summaries
returns-clause-summaries c = λ config is.
    summaries-of config _ _ _ (c.in_ok-tally.ensures.tally config is) (c.host.ensures ∙ ap (λ (run : RunState). run.host) (c.in_ok-tally.ensures.run config is))
    c.in_ok-told.ensures
