use Rattle.std.proofs.Common.{◌≡◌, ⊎_elim, arith}
use Rattle.vm_plan.specs.declared.state.State.TheVariants.{Hard, Low}
use Rattle.vm_plan.proofs.paging.page_count.Goals as goal

pub returns-in-Soft : goal.returns-in-Soft
returns-in-Soft c = rw c.in-Soft.is (omega arith)

pub returns-in-Hard : goal.returns-in-Hard
returns-in-Hard c =
    ⊎_elim (λ (hard : c.args.state ≡ Hard). rw hard (omega arith)) (λ (low : c.args.state ≡ Low). rw low (omega arith))
    c.in-Hard.is
