use Rattle.std.proofs.Common.{ℕ, ◌+◌, ap, ◌∙◌, add-one, refl}
use Rattle.vm_host.specs.World.{World}
use Rattle.vm_sim.specs.Stepping.{RunState}
use Rattle.vm_tally.specs.Tally.{empty_summary}
use Rattle.vm_tally.proofs.FirstLemmas.{first_summary}
use Rattle.vm_tally.proofs.running.summarize.Goals as goal

pub loop-epoch-init : goal.loop-epoch-init
loop-epoch-init c = record {
  done = c.requires.fresh;
  epochs = refl;
  waits = c.requires.waits;
  run = λ config is. is;
  summary = λ config is. c.empty_summary-summary.ensures
      ∙ ap empty_summary (c.frames.ensures ∙ ap (λ (w : World). w.machine.frames) c.host.ensures ∙ ap (λ (run : RunState). run.host.machine.frames) is)
      ∙ first_summary config;
}

pub loop-epoch-preserved : goal.loop-epoch-preserved
loop-epoch-preserved c =
    let k = c.loop-epoch.epoch in
    record {
      done = c.in_ok-add_next.ensures.counted ∙ ap (λ (n : ℕ). n + 1) c.loop-epoch.invariant.done;
      epochs = c.in_ok-add_next.ensures.epochs ∙ c.loop-epoch.invariant.epochs;
      waits = c.in_ok-add_next.ensures.waits;
      run = λ config is. rw add-one (c.in_ok-add_next.ensures.next config k (c.loop-epoch.invariant.run config is));
      summary = λ config is. rw add-one (c.in_ok-add_next.ensures.summary config (c.loop-epoch.invariant.run config is)
          (c.loop-epoch.invariant.summary config is));
    }
