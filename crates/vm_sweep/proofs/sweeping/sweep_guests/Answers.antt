use Rattle.std.proofs.Common.{IfErr, OnOk, subst}
use Rattle.std.specs.List.{concat}
use Rattle.std.specs.Io.KnownBytes.{Appends, Keeps}
use Rattle.vm_sim.specs.Run.{MeansConfig}
use Rattle.vm_sweep.specs.Refusals.{StopsFor}
use Rattle.vm_sweep.specs.Table.{rows_for}
use Rattle.vm_sweep.specs.Written.{FailsOnTable}
use Rattle.vm_sweep.specs.declared.outcome.Detail.TheVariants.{EachGuest}
use Rattle.vm_tally.specs.declared.table.Rebalancing.{Rebalancing}
use Rattle.vm_sweep.proofs.sweeping.sweep_guests.Goals as goal

pub returns-clause-done : goal.returns-clause-done
returns-clause-done g c =
    let lists = c.args.lists.now in
    subst (λ (from : Rebalancing). OnOk c.sweep_in.result (MeansConfig (λ config. Appends (g.W.Sink.contents c.args.writer.now)
    (g.W.Sink.contents c.sweep_in.new.writer) (concat (rows_for (EachGuest from) lists config))) c.args.text.now)) c.rebalancing.ensures c.sweep_in.ensures.done

pub returns-clause-failed : goal.returns-clause-failed
returns-clause-failed g c =
    let lists = c.args.lists.now in
    let old = g.W.Sink.contents c.args.writer.now in
    let new = g.W.Sink.contents c.sweep_in.new.writer in
    subst (λ (from : Rebalancing). IfErr c.sweep_in.result (StopsFor (Keeps old new) (FailsOnTable old new (rows_for (EachGuest from) lists) c.args.text.now)
    lists c.args.text.now)) c.rebalancing.ensures c.sweep_in.ensures.failed
