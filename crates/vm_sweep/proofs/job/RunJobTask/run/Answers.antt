use Rattle.std.proofs.Common.{◌∙◌, subst, sym}
use Rattle.vm_sweep.specs.Orders.{Order, shape_of}
use Rattle.vm_sweep.specs.Rounds.{CanRun}
use Rattle.vm_sweep.proofs.job.RunJobTask.run.Goals as goal

pub invariant_of-result : goal.invariant_of-result
invariant_of-result c =
    c.run_in-outcome.ensures.told c.self.inside.base.value
    (subst (λ (o : Order). CanRun o.base (shape_of o.variant.changes) c.args.place.now) (sym c.self.view_is) c.requires)

pub returns-clause-tool : goal.returns-clause-tool
returns-clause-tool c = λ other there. record {
  shape = c.run_in-outcome.ensures.like ∙ there.shape;
  config = c.run_in-outcome.ensures.kept c.self.inside.base.value other.base (shape_of other.variant.changes)
      (subst (λ (o : Order). CanRun o.base (shape_of o.variant.changes) c.args.place.now) (sym c.self.view_is) c.requires) there;
}
