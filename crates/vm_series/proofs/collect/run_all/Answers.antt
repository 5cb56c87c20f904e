use Rattle.std.proofs.Common.{ℕ, suc, ◌+◌, ◌≡◌, ap, ◌∙◌, add-one}
use Rattle.vm_config.specs.declared.config.Config.{Config}
use Rattle.vm_sim.specs.Stepping.{run_after}
use Rattle.vm_series.proofs.RowLemmas.{map_more, row_after}
use Rattle.vm_series.specs.Rows.{row_of, row_of_host}
use Rattle.vm_series.proofs.collect.run_all.Goals as goal

pub loop-epoch-preserved : goal.loop-epoch-preserved
loop-epoch-preserved g c =
    let k = c.loop-epoch.epoch in
    let next : (config : Config) → c.args.run.now ≡ run_after config 0 → c.step.new.self ≡ run_after config (suc k) =
    λ config is. c.in_ok-step.ensures.next config k (c.loop-epoch.invariant.run config is) in
    record {
      done = c.in_ok-step.ensures.counted ∙ ap (λ (n : ℕ). n + 1) c.loop-epoch.invariant.done;
      epochs = c.in_ok-step.ensures.epochs ∙ c.loop-epoch.invariant.epochs;
      run = λ config is. rw add-one (next config is);
      rows = λ config is. map_more (row_of config) k _ _ (row_of_host k c.host.result.now) (c.loop-epoch.invariant.rows config is)
          c.in_ok-push_row.ensures (row_after config k c.step.new.self c.host.result.now (next config is) c.host.ensures);
    }
