use Rattle.std.proofs.lemmas.Bool.{lt-ltb, ltb-true}
use Rattle.vm_plan.proofs.grants.lets_grow.Goals as goal

pub returns-in-Soft : goal.returns-in-Soft
returns-in-Soft c = rw c.in-Soft.is (ltb-true _ _, lt-ltb _ _)
