use Rattle.std.proofs.Common.{ℕ, ◌+◌, ap, ◌∙◌, add-one, length, refl}
use Rattle.vm_host.specs.World.{World}
use Rattle.vm_sim.specs.Stepping.{RunState}
use Rattle.vm_tally.specs.GuestTally.{empty_tally}
use Rattle.vm_tally.proofs.GuestLemmas.{counted-guests, first-tally}
use Rattle.vm_tally.proofs.guest_running.count_all.Goals as goal

pub loop-epoch-init : goal.loop-epoch-init
loop-epoch-init c = record {
  done = c.requires.fresh;
  epochs = refl;
  waits = c.requires.waits;
  run = λ config is. is;
  tally = λ config is. c.in_ok-tally.ensures
      ∙ ap empty_tally (c.len.ensures.names ∙ ap (λ (w : World). length w.names) c.host.ensures
      ∙ ap (λ (run : RunState). length run.host.names) is ∙ counted-guests config)
      ∙ first-tally config (length config.domains);
}

pub loop-epoch-preserved : goal.loop-epoch-preserved
loop-epoch-preserved c =
    let k = c.loop-epoch._epoch in
    record {
      done = c.in_ok-add_next.ensures.counted ∙ ap (λ (n : ℕ). n + 1) c.loop-epoch.invariant.done;
      epochs = c.in_ok-add_next.ensures.epochs ∙ c.loop-epoch.invariant.epochs;
      waits = c.in_ok-add_next.ensures.waits;
      run = λ config is. rw add-one (c.in_ok-add_next.ensures.next config k (c.loop-epoch.invariant.run config is));
      tally = λ config is. rw add-one (c.in_ok-add_next.ensures.tally config k (length config.domains) (c.loop-epoch.invariant.run config is)
          (c.loop-epoch.invariant.tally config is));
    }
