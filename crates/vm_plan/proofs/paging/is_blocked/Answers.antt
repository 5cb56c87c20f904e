use Rattle.std.proofs.Common.{◌≡◌, rules}
use Rattle.std.proofs.lemmas.Bool.{lt-ltb, ltb-true}
use Rattle.vm_plan.specs.declared.state.State.TheVariants.{Low}
use Rattle.vm_plan.proofs.paging.is_blocked.Goals as goal

pub returns-then-eq : goal.returns-then-eq
returns-then-eq c =
    let low : c.args.state ≡ Low = search rules in
    (λ more. (low, ltb-true _ _ more), λ blocked. lt-ltb _ _ blocked.1)
